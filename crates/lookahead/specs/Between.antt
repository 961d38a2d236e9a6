-- What lies between the parts of a division.
use Rattle.std.specs.Prelude.{◌≡◌, ◌≢◌, ℕ, ◌<◌, unwrap_or}
use Rattle.std.specs.List.{slice_get}
use Rattle.scenario.specs.Setup.{Setup, member_count}
use Rattle.scenario.specs.Division.{Deal}
use Rattle.windows.specs.Cluster.{link_delay, IsPeopled, LiesBetween}

-- the part of a member, and for whoever is none a number that no part has
abbrev pub part_number : Deal → ℕ → ℕ
part_number deal m = unwrap_or (slice_get deal.part_of m) deal.parts

-- the delay of the link from some member of the one part to some member of the other
abbrev pub IsDelayBetween : Setup → (ℕ → ℕ) → ℕ → ℕ → ℕ → Type 0
IsDelayBetween s division from to delay = (i : ℕ) × (j : ℕ) × (i < member_count s) × (j < member_count s) × (division i ≡ from) × (division j ≡ to) × (link_delay s i j ≡ delay)

-- between different parts with members lies the least delay of a link from a member of the one to a member of the other
pub record IsLeastBetween (s : Setup) (division : ℕ → ℕ) (between : ℕ → ℕ → ℕ) : Type 0 where
  pub lies : LiesBetween s division between
  pub reached : (from to : ℕ) → from ≢ to → IsPeopled s division from → IsPeopled s division to → IsDelayBetween s division from to (between from to)

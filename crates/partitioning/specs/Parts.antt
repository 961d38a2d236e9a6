-- By which parts a run is shared.
use Rattle.std.specs.Prelude.{◌≡◌, ◌==◌, ℕ, ◌+◌, ◌<◌, ◌≤◌, All, count_by, map, length}
use Rattle.scenario.specs.Setup.{Setup, member_count}
use Rattle.scenario.specs.Division.{Deal}

-- each member of the scenario has one of the parts, of which there are at most so many
pub record Divides (s : Setup) (most : ℕ) (deal : Deal) : Type 0 where
  pub one_each : length deal.part_of ≡ member_count s
  pub below : All (λ part. part < deal.parts) deal.part_of
  pub few : deal.parts ≤ most

-- each part of the first division is in one of the second as a whole
abbrev pub PutsTogether : Deal → Deal → Type 0
PutsTogether parts together = (place_of : ℕ → ℕ) × (together.part_of ≡ map place_of parts.part_of)

-- how many members are at a place, where each part goes to one
abbrev pub members_at : Deal → (ℕ → ℕ) → ℕ → ℕ
members_at deal place_of place = count_by (λ part. place_of part == place) deal.part_of

-- parts go to so many places evenly: a place with more members than another one has a part without which it has no more
abbrev pub IsEven : Deal → ℕ → (ℕ → ℕ) → Type 0
IsEven deal places place_of =
    (large small : ℕ) → large < places → small < places → members_at deal place_of small < members_at deal place_of large
    → (part : ℕ) × (part < deal.parts) × (place_of part ≡ large) × (members_at deal place_of large ≤ members_at deal place_of small + members_at deal (λ p. p) part)

-- the parts of a division put together evenly into so many, each as a whole
pub record IsFolded (asked : Deal) (many : ℕ) (folded : Deal) : Type 0 where
  pub parts : folded.parts ≡ many
  pub place_of : ℕ → ℕ
  pub whole : folded.part_of ≡ map place_of asked.part_of
  pub even : IsEven asked many place_of

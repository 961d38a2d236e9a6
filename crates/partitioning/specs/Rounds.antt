-- How long the rounds of parts are, and how long they must be.
use Rattle.std.specs.Prelude.{◌≡◌, ℕ, ◌*◌, ◌≤◌, Option, unwrap_or}
use Rattle.scenario.specs.Setup.{Setup, member_count}
use Rattle.scenario.specs.Division.{Deal}
use Rattle.windows.specs.Cluster.{IsPeopled}
use Rattle.lookahead.specs.Between.{part_number, IsLeastBetween}
use Rattle.lookahead_windows.specs.Walks.{IsLeastAmong, AreBelow}

-- In so many ticks so many messages are likely: in a period each member pings another one and is answered.
abbrev pub HasMessages : ℕ → Setup → ℕ → Type 0
HasMessages many s ticks = many * s.swim.period ≤ ticks * (member_count s * 2)

-- the least number of ticks in which six are
pub record IsLongRound (s : Setup) (ticks : ℕ) : Type 0 where
  pub enough : HasMessages 6 s ticks
  pub least : (fewer : ℕ) → HasMessages 6 s fewer → ticks ≤ fewer

-- the length of the least walk of links from one of the parts to another, and 0 where there is none
abbrev pub IsLeastWalkOf : Setup → Deal → ℕ → Type 0
IsLeastWalkOf s deal ticks = (between : ℕ → ℕ → ℕ) × (least : Option ℕ) × IsLeastBetween s (part_number deal) between
    × IsLeastAmong (IsPeopled s (part_number deal)) between (AreBelow deal.parts deal.parts) least × (ticks ≡ unwrap_or least 0)

-- The least of all walks, and how many ticks a round has.
use Rattle.std.specs.Prelude.{◌≡◌, ℕ, ◌*◌, ◌/◌, ◌<◌, min, max, List, Option, Some, None}
use Rattle.std.specs.List.{slice_get}
use Rattle.std.specs.Option.{option_map_or}
use Rattle.scenario.specs.Setup.{Setup, member_count}
use Rattle.windows.specs.Cluster.{IsPeopled}
use Rattle.windows.specs.Horizon.{Walk}
use Rattle.lookahead.specs.Walks.{Table, AreWalksOf, IsLengthOfAWalk, IsNoLonger}

-- no walk between these pairs of parts is shorter than this length, which one of them has; where it is None there is none
abbrev pub IsLeastAmong : (ℕ → Type 0) → (ℕ → ℕ → ℕ) → (ℕ → ℕ → Type 0) → Option ℕ → Type 0
IsLeastAmong HasMembers between Among None = (from to : ℕ) → Among from to → ¬ (Walk HasMembers from to)
IsLeastAmong HasMembers between Among (Some d) =
    ((from : ℕ) × (to : ℕ) × Among from to × IsLengthOfAWalk HasMembers between from to d) × ((from to : ℕ) → Among from to → IsNoLonger HasMembers between from to d)

-- so it is by whatever division the table has the walks of
abbrev pub IsLeastWalkAmong : Table → (ℕ → ℕ → Type 0) → Option ℕ → Type 0
IsLeastWalkAmong table Among least = (s : Setup) (division : ℕ → ℕ) (between : ℕ → ℕ → ℕ) → AreWalksOf table s division between → IsLeastAmong (IsPeopled s division) between Among least

-- the pairs of one part and those below a number
abbrev pub IsFrom : ℕ → ℕ → ℕ → ℕ → Type 0
IsFrom part below from to = (from ≡ part) × (to < below)

-- the pairs of the parts below a number and those below another
abbrev pub AreBelow : ℕ → ℕ → ℕ → ℕ → Type 0
AreBelow below parts from to = (from < below) × (to < parts)

-- the pairs of the parts below a number and one part
abbrev pub IsInto : ℕ → ℕ → ℕ → ℕ → Type 0
IsInto below part from to = (from < below) × (to ≡ part)

-- In how many ticks the members are likely to handle as many events as a round is to have at most, where each pings another
-- one each period and is answered; one at least.
abbrev pub likely_ticks : Setup → ℕ
likely_ticks s = max (8192 * s.swim.period / (member_count s * 2)) 1

-- how many ticks a part's window goes past the first moment: as many as the least walk into it has, where there is one, and no
-- more than are likely to have so many events
abbrev pub round_ticks : Setup → Option ℕ → ℕ
round_ticks s least = option_map_or (λ length. min length (likely_ticks s)) least (likely_ticks s)

-- the ways into the parts of that table
abbrev pub AreRoundWays : Setup → Table → List ℕ → Type 0
AreRoundWays s table ways = (part way : ℕ) → slice_get ways part ≡ Some way → (least : Option ℕ) × IsLeastWalkAmong table (IsInto table.parts part) least × (way ≡ round_ticks s least)

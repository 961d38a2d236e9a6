use Rattle.std.proofs.Common.{ℕ, ◌<◌, ◌≤◌, length, get_or}
use Rattle.partitioning.proofs.folding.least_of.Given as goal

-- the first of the least of those before this place
abbrev pub invariant-loop-place : goal.invariant-loop-place
invariant-loop-place l =
    (l.least < length l.filled)
    × (l.least < l.place)
    × ((k : ℕ) → k < l.place → get_or l.filled l.least 0 ≤ get_or l.filled k 0)
    × ((k : ℕ) → k < l.least → get_or l.filled l.least 0 < get_or l.filled k 0)

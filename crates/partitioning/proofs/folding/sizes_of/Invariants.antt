use Rattle.std.proofs.Common.{◌≡◌, ◌==◌, ℕ, ◌<◌, ◌≤◌, All, take, get_or, count_by, vec_len}
use Rattle.partitioning.proofs.folding.sizes_of.Given as goal

-- each part has its place, and there the number of its members so far
abbrev pub invariant-loop-member : goal.invariant-loop-member
invariant-loop-member l =
    (vec_len l.sizes ≡ l.division.parts)
    × All (λ size. size ≤ l.member) l.sizes.items
    × ((part : ℕ) → part < l.division.parts → get_or l.sizes.items part 0 ≡ count_by (λ p. p == part) (take l.member l.division.part_of))

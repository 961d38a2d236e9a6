use Rattle.std.proofs.Common.{◌≡◌, ◌<◌, All, take, vec_len}
use Rattle.partitioning.proofs.divisions.same_parts.Given as goal

-- each member so far has its own part
abbrev pub invariant-loop-member : goal.invariant-loop-member
invariant-loop-member l =
    (vec_len l.part_of ≡ l.member)
    × All (λ part. part < l.division.parts) l.part_of.items
    × (l.part_of.items ≡ take l.member l.division.part_of)

use Rattle.std.proofs.Common.{◌≡◌, ◌<◌, All, map, take, get_or, vec_len}
use Rattle.partitioning.proofs.folding.folded.Given as goal

-- each member so far has the part where its own part goes
abbrev pub invariant-loop-member : goal.invariant-loop-member
invariant-loop-member l =
    (vec_len l.part_of ≡ l.member)
    × All (λ part. part < l.most) l.part_of.items
    × (l.part_of.items ≡ map (λ part. get_or l.places.items part l.most) (take l.member l.division.part_of))

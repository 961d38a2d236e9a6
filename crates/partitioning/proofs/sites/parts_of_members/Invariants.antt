use Rattle.std.proofs.Common.{◌≡◌, ℕ, ◌<◌, All, get_or, vec_len}
use Rattle.partitioning.specs.Sites.{group_for}
use Rattle.partitioning.proofs.sites.parts_of_members.Given as goal

-- each member so far has its group's site
abbrev pub invariant-loop-member : goal.invariant-loop-member
invariant-loop-member l =
    (vec_len l.part_of ≡ l.member)
    × All (λ part. part < 64) l.part_of.items
    × ((m : ℕ) → m < l.member → get_or l.part_of.items m 0 ≡ get_or l.sites (group_for l.scenario m) 0)

use Rattle.std.proofs.Common.{length}
use Rattle.links.specs.Table.{link_at}
use Rattle.links.specs.Least.{IsLeastBelow, is_third, is_other}
use Rattle.links.proofs.least.least_delay.Given as goal

abbrev pub invariant-loop-from : goal.invariant-loop-from
invariant-loop-from l =
    let groups = l.links.groups.items in
    IsLeastBelow (is_third groups) (is_other groups) (λ i j. (link_at l.links i j).delay) (length groups) l.from l.least

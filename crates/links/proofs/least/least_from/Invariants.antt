use Rattle.links.specs.Table.{link_at}
use Rattle.links.specs.Least.{IsLeastFrom, is_other}
use Rattle.links.proofs.least.least_from.Given as goal

abbrev pub invariant-loop-to : goal.invariant-loop-to
invariant-loop-to l = IsLeastFrom (is_other l.links.groups.items l.from) (λ to. (link_at l.links l.from to).delay) l.to l.least

use Rattle.piggyback.proofs.Holding.{get-keyed, order-after, held-after}
use Rattle.piggyback.proofs.Buffer.put.Goals as goal

pub invariant_of-self : goal.invariant_of-self
invariant_of-self c = order-after c.set.result _ _ _ c.set.ensures.ok c.set.ensures.err c.self.invariant

pub returns-clause-ok : goal.returns-clause-ok
returns-clause-ok c = rw (← c.self.view_is) (held-after c.set.result _ _ _ c.set.ensures.ok)

pub returns-clause-replaces : goal.returns-clause-replaces
returns-clause-replaces c = rw (← c.self.view_is, get-keyed) c.set.ensures.replaces

use Rattle.std.proofs.Common.{◌≤◌, arith}
use Rattle.base.specs.Order.{moments-from_not_before}
use Rattle.worker_queue.proofs.Unions.{not_in_empty}
use Rattle.worker_queue.proofs.stores.earliest.Goals as goal

pub returns-in-Some : goal.returns-in-Some
returns-in-Some g c = λ q here.
    let after : c.in-Some.key.at ≤ q.at = moments-from_not_before q c.in-Some.key (c.in-Some.ensures.least.least q here) in
    omega (arith, after, c.ticks.ensures)

pub returns-in-None : goal.returns-in-None
returns-in-None g c = λ q here. absurd (not_in_empty _ q c.in-None.ensures.none here)

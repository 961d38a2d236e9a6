use Rattle.worker_queue.specs.Stores.{all_in}
use Rattle.worker_queue.proofs.Unions.{none_to_count}
use Rattle.worker_queue.proofs.wheel_queue.WheelQueue.new.Goals as goal

pub invariant_of-result : goal.invariant_of-result
invariant_of-result g c = record { counted = none_to_count (all_in g.E.Keyed.key c.in_ok-stores.stores) c.in_ok-stores.ensures }

use Rattle.worker_queue.specs.SetOf.{set_of}
use Rattle.worker_queue.specs.Wheel.{events_in}
use Rattle.worker_queue.proofs.Events.{none_in_empty}
use Rattle.worker_queue.proofs.Unions.{apart_from_none, none_in_both}
use Rattle.worker_queue.proofs.stores.Stores.new.Goals as goal

pub invariant_of-result : goal.invariant_of-result
invariant_of-result g c = record { apart = apart_from_none (events_in g.E.Keyed.key c.in_ok-wheel.wheel.slots.items) (set_of c.new-2.result) c.in_ok-wheel.ensures; not_earlier = none_in_empty (set_of c.new-2.result) 18446744073709551615 c.new-2.ensures }

pub returns : goal.returns
returns g c = none_in_both (events_in g.E.Keyed.key c.in_ok-wheel.wheel.slots.items) (set_of c.new-2.result) c.in_ok-wheel.ensures c.new-2.ensures

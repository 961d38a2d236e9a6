use Rattle.worker_queue.specs.SetOf.{set_of}
use Rattle.worker_queue.specs.Wheel.{events_in}
use Rattle.worker_queue.proofs.Unions.{least_in_both, no_least_in_both}
use Rattle.worker_queue.proofs.stores.Stores.least.Goals as goal

pub returns-clause-least : goal.returns-clause-least
returns-clause-least g c =
    least_in_both (events_in g.E.Keyed.key c.args.self.now.wheel.slots.items) (set_of c.args.self.now.late) c.least.result c.least-2.result c.lesser_key.result c.least.ensures.least c.least-2.ensures.least c.least.ensures.none c.least-2.ensures.none c.lesser_key.ensures.one
    c.lesser_key.ensures.first c.lesser_key.ensures.second

pub returns-clause-none : goal.returns-clause-none
returns-clause-none g c = no_least_in_both (events_in g.E.Keyed.key c.args.self.now.wheel.slots.items) (set_of c.args.self.now.late) c.least.result c.least-2.result c.lesser_key.result c.least.ensures.none c.least-2.ensures.none c.lesser_key.ensures.none

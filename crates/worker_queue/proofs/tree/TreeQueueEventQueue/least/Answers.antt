use Rattle.std.proofs.Common.{rules}
use Rattle.base.specs.Order.{key_cmp}
use Rattle.worker_queue.proofs.Events.{least_of}
use Rattle.worker_queue.proofs.tree.TreeQueueEventQueue.least.Goals as goal

pub returns-in-Some-clause-least : goal.returns-in-Some-clause-least
unfolding key_cmp
returns-in-Some-clause-least g c = least_of c.args.self.now.events.entries c.in-Some.key.now c.in-Some.field-0-1.now (search rules) (search rules)

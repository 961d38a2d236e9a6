use Rattle.std.proofs.Common.{◌∙◌, sym}
use Rattle.base.specs.Order.{key_cmp}
use Rattle.worker_queue.proofs.Events.{len-from_entries}
use Rattle.worker_queue.proofs.tree.TreeQueueEventQueue.len.Goals as goal

pub returns : goal.returns
unfolding key_cmp
returns g c = c.len.ensures.len ∙ sym (len-from_entries c.args.self.now.events.entries c.len.ensures.ordered)

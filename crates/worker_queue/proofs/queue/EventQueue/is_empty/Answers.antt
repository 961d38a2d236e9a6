use Rattle.worker_queue.proofs.Events.{empty_by_len}
use Rattle.worker_queue.proofs.queue.EventQueue.is_empty.Goals as goal

pub returns : goal.returns
returns g c = empty_by_len (g.Self.EventQueue.set c.args.self.now) c.len.result c.len.ensures

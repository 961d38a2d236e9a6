use Rattle.std.proofs.Common.{refl}
use Rattle.broadcast_queue.specs.Contents.{queue_of}
use Rattle.broadcast_queue.proofs.BroadcastQueue.has_id.Goals as goal

pub returns : goal.returns
unfolding queue_of
returns c = rw (← c.self.view_is) refl

use Rattle.broadcast_queue.proofs.Whole.{points_within}
use Rattle.broadcast_queue.proofs.laws.a_queue_without_the_reset_loses_nothing.Goals as goal

pub returns : goal.returns
returns c uses subject = points_within uses subject

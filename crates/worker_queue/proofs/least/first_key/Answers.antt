use Rattle.base.specs.Order.{before-from_moments}
use Rattle.worker_queue.proofs.Lists.{earlier-from_before_first}
use Rattle.worker_queue.proofs.least.first_key.Goals as goal

pub returns : goal.returns
returns c q = (earlier-from_before_first q c.args.at, before-from_moments q _)

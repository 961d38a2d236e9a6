use Rattle.std.proofs.Common.{ap, ◌∙◌}
use Rattle.std.specs.Ordering.{is_lt}
use Rattle.base.specs.Order.{key_cmp}
use Rattle.worker_queue.proofs.Lists.{less_is}
use Rattle.worker_queue.proofs.least.is_before.Goals as goal

pub returns : goal.returns
unfolding key_cmp
returns c = less_is (key_cmp c.args.key.now c.args.other.now) c.is_lt.result (c.is_lt.ensures ∙ ap is_lt c.cmp.ensures)

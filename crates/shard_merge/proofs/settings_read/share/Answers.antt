use Rattle.std.proofs.Common.{◌-◌}
use Rattle.shard_merge.proofs.settings_read.share.Goals as goal

pub returns : goal.returns
returns c = λ i. c.past.ensures.past i - c.first.ensures.first i

use Rattle.std.proofs.Common.{subst, sym}
use Rattle.shards.specs.Shards.{IsShard}
use Rattle.shards.proofs.Whole.{whole_is_shard}
use Rattle.shards.proofs.shard.Shard.whole.Goals as goal

pub returns-clause-shard : goal.returns-clause-shard
returns-clause-shard c = whole_is_shard

use Rattle.shard_merge.proofs.GenuineWhole.{whole_of}
use Rattle.shard_merge.proofs.laws.all_shards_are_the_whole.Goals as goal

pub returns : goal.returns
returns c texts old new read columns settings mark tree sweep of made joins marked asked none long fits genuine =
    whole_of texts old new read columns settings mark tree sweep joins marked asked of made none long fits genuine

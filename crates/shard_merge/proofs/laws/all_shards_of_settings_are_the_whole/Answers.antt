use Rattle.shard_merge.proofs.GenuineWhole.{whole_of_settings}
use Rattle.shard_merge.proofs.laws.all_shards_of_settings_are_the_whole.Goals as goal

pub returns : goal.returns
returns c texts old new read columns settings mark tree sweep width of made joins marked asked wanted are fits genuine =
    whole_of_settings texts old new read columns settings mark tree sweep joins marked asked width of made wanted are fits genuine

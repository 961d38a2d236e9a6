use Rattle.table_merge.proofs.Genuine.{whole_of_setting_shards}
use Rattle.table_merge.proofs.laws.all_shards_of_settings_are_the_whole.Goals as goal

pub returns : goal.returns
returns c texts old new read columns settings mark tree sweep width of made joins marked asked wanted makes fits genuine =
    whole_of_setting_shards texts old new read columns settings mark tree sweep width of made joins marked asked wanted makes fits genuine

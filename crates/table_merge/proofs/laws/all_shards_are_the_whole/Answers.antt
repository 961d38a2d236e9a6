use Rattle.table_merge.proofs.Genuine.{whole_of_shards}
use Rattle.table_merge.proofs.laws.all_shards_are_the_whole.Goals as goal

pub returns : goal.returns
returns c texts old new read columns settings mark tree sweep of made joins marked asked none long fits genuine =
    whole_of_shards texts old new read columns settings mark tree sweep of made joins marked asked none long fits genuine

use Rattle.table_merge.proofs.Genuine.{whole_of_tables}
use Rattle.table_merge.proofs.laws.tables_of_all_seeds_are_the_whole.Goals as goal

pub returns : goal.returns
returns c texts old new read columns settings mark tree sweep all made joins marked asked is_with seeded long fits genuine =
    whole_of_tables texts tree mark sweep all made marked asked is_with long fits genuine old new read columns settings joins seeded

use Rattle.table_rows.proofs.CutSettings.{going_on, taken_for_one}
use Rattle.table_rows.proofs.laws.a_cut_shard_of_settings_goes_on.Goals as goal

pub returns-clause-goes_on : goal.returns-clause-goes_on
returns-clause-goes_on c tree mark sweep width p made text kept settings before new cut is writes = going_on tree mark sweep width p made text cut kept settings before is new writes

pub returns-clause-taken : goal.returns-clause-taken
returns-clause-taken c tree mark sweep width p made text cut = taken_for_one tree mark sweep width p made text cut

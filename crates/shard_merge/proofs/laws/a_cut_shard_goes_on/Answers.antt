use Rattle.shard_merge.proofs.CutShards.{going_on, taken_for_one}
use Rattle.shard_merge.proofs.laws.a_cut_shard_goes_on.Goals as goal

pub returns-clause-goes_on : goal.returns-clause-goes_on
returns-clause-goes_on c tree mark sweep p made text kept runs new cut begun writes = going_on tree mark sweep p made text cut kept runs new begun writes

pub returns-clause-taken : goal.returns-clause-taken
returns-clause-taken c tree mark sweep p made text cut refused = taken_for_one tree mark sweep p made text cut refused

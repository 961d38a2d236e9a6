use Rattle.member_laws.proofs.Runs.{revived_later}
use Rattle.member_laws.proofs.laws.a_run_revives_by_higher_numbers_alone.Goals as goal

pub returns : goal.returns
returns c = λ s w v m before after subject number later rules reached leads here there. revived_later s w v reached leads m before after here there rules subject number later

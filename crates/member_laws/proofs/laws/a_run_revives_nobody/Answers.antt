use Rattle.member_laws.proofs.Runs.{confirmed_stays}
use Rattle.member_laws.proofs.laws.a_run_revives_nobody.Goals as goal

pub returns : goal.returns
returns c = λ s w v m before after subject number papers reached leads here there. confirmed_stays s w v reached leads m before after here there papers subject number

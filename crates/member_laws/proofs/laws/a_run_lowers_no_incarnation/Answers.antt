use Rattle.member_laws.proofs.Runs.{rises, rises_by_older}
use Rattle.member_laws.proofs.laws.a_run_lowers_no_incarnation.Goals as goal

pub returns-clause-within_one_life : goal.returns-clause-within_one_life
returns-clause-within_one_life c = λ s w v m before after reached leads here there. rises s w v reached leads m before after here there

pub returns-clause-by_older_rules : goal.returns-clause-by_older_rules
returns-clause-by_older_rules c = λ s w v m before after older reached leads here there. rises_by_older s w v reached leads m before after here there older

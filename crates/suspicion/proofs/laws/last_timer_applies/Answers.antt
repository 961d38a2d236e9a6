use Rattle.suspicion.proofs.Timers.{is_due-insert, is_due-remove, is_due-accused}
use Rattle.suspicion.proofs.laws.last_timer_applies.Goals as goal

pub returns-clause-started : goal.returns-clause-started
returns-clause-started c = is_due-insert

pub returns-clause-accused : goal.returns-clause-accused
returns-clause-accused c = is_due-accused

pub returns-clause-cleared : goal.returns-clause-cleared
returns-clause-cleared c = is_due-remove

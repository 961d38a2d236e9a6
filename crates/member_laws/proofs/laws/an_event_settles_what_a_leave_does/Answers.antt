use Rattle.member_laws.proofs.Settles.{settled_opening, settled_step, settled_run, idle_run}
use Rattle.member_laws.proofs.laws.an_event_settles_what_a_leave_does.Goals as goal

pub returns-clause-opening : goal.returns-clause-opening
returns-clause-opening c = settled_opening

pub returns-clause-step : goal.returns-clause-step
returns-clause-step c = settled_step

pub returns-clause-run : goal.returns-clause-run
returns-clause-run c = settled_run

pub returns-clause-idle : goal.returns-clause-idle
returns-clause-idle c = idle_run

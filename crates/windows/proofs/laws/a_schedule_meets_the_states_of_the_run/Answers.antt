use Rattle.windows.proofs.Members.{met_here, met_in_part}
use Rattle.windows.proofs.laws.a_schedule_meets_the_states_of_the_run.Goals as goal

pub returns-clause-schedule : goal.returns-clause-schedule
returns-clause-schedule c = met_here

pub returns-clause-part : goal.returns-clause-part
returns-clause-part c = met_in_part

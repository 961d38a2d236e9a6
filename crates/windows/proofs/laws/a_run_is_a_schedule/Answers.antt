use Rattle.windows.proofs.Members.{run_here}
use Rattle.windows.proofs.laws.a_run_is_a_schedule.Goals as goal

pub returns : goal.returns
returns c = run_here

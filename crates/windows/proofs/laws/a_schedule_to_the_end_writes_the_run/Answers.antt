use Rattle.windows.proofs.Members.{run_sorted}
use Rattle.windows.proofs.laws.a_schedule_to_the_end_writes_the_run.Goals as goal

pub returns : goal.returns
returns c = run_sorted

use Rattle.sequential_run.proofs.Runs.{same_rows}
use Rattle.sequential_run.proofs.laws.the_run_is_one.Goals as goal

pub returns : goal.returns
returns c = same_rows

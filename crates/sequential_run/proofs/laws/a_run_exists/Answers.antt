use Rattle.run_output.proofs.Runs.{some_run}
use Rattle.sequential_run.proofs.laws.a_run_exists.Goals as goal

pub returns : goal.returns
returns c = some_run

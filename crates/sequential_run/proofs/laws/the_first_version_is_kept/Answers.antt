use Rattle.sequential_run.proofs.FirstVersion.{plain, first_told}
use Rattle.sequential_run.proofs.laws.the_first_version_is_kept.Goals as goal

pub returns-clause-runs : goal.returns-clause-runs
returns-clause-runs c s rows sound first run = plain s sound first rows run

pub returns-clause-report : goal.returns-clause-report
returns-clause-report c s rows sound first run = first_told s sound first rows run

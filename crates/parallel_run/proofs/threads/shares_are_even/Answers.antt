use Rattle.parallel_run.proofs.SharesOfAll.{shares_of_all}
use Rattle.parallel_run.proofs.threads.shares_are_even.Goals as goal

pub returns-clause-all : goal.returns-clause-all
returns-clause-all c = shares_of_all

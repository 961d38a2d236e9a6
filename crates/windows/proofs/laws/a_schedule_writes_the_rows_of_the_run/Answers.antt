use Rattle.windows.proofs.Members.{keys_here, rows_here, rows_by_here}
use Rattle.windows.proofs.laws.a_schedule_writes_the_rows_of_the_run.Goals as goal

pub returns-clause-keys : goal.returns-clause-keys
returns-clause-keys c = keys_here

pub returns-clause-rows : goal.returns-clause-rows
returns-clause-rows c = rows_here

pub returns-clause-of_each_member : goal.returns-clause-of_each_member
returns-clause-of_each_member c = rows_by_here

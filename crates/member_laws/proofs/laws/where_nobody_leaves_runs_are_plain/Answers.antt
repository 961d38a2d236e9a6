use Rattle.member_laws.proofs.Leaves.{same_step, no_leaves, to_plain, from_plain, tells_of_none}
use Rattle.member_laws.proofs.laws.where_nobody_leaves_runs_are_plain.Goals as goal

pub returns-clause-step : goal.returns-clause-step
returns-clause-step c s papers k content t no_leave no_bye = same_step s papers k content t no_leave no_bye

pub returns-clause-events : goal.returns-clause-events
returns-clause-events c s w k content none reached here = no_leaves s none w k content reached here

pub returns-clause-runs : goal.returns-clause-runs
returns-clause-runs c s rows papers none run = to_plain s none papers rows run

pub returns-clause-plain_runs : goal.returns-clause-plain_runs
returns-clause-plain_runs c s rows papers none run = from_plain s none papers rows run

pub returns-clause-rows : goal.returns-clause-rows
returns-clause-rows c s rows none run = tells_of_none s none rows run

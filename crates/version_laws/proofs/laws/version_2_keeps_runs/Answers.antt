use Rattle.member_laws.proofs.Leaves.{tells_of_none}
use Rattle.version_laws.proofs.Runs.{run_stays, run_was, wears, wore, same_trace, stays_sound}
use Rattle.version_laws.proofs.Reports.{one_line_more}
use Rattle.version_laws.proofs.laws.version_2_keeps_runs.Goals as goal

pub returns-clause-sound : goal.returns-clause-sound
returns-clause-sound c = stays_sound

pub returns-clause-runs : goal.returns-clause-runs
returns-clause-runs c s rows first run = run_stays s first rows run

pub returns-clause-no_others : goal.returns-clause-no_others
returns-clause-no_others c s rows first run = run_was s first rows run

pub returns-clause-wears : goal.returns-clause-wears
returns-clause-wears c s first overflow = wears s first overflow

pub returns-clause-wears_no_sooner : goal.returns-clause-wears_no_sooner
returns-clause-wears_no_sooner c s first overflow = wore s first overflow

pub returns-clause-traces : goal.returns-clause-traces
returns-clause-traces c = same_trace

pub returns-clause-reports : goal.returns-clause-reports
returns-clause-reports c s rows first none run = one_line_more s rows first (tells_of_none s none rows run)

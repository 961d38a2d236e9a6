use Rattle.drive_process.proofs.Fair.{driven_later, driven_numbered, driven_counts}
use Rattle.drive_process.proofs.laws.answers_make_runs.Goals as goal

pub returns-clause-later : goal.returns-clause-later
returns-clause-later c = λ s answers sound are. driven_later s sound answers are

pub returns-clause-numbers : goal.returns-clause-numbers
returns-clause-numbers c = λ s answers sound are. driven_numbered s sound answers are

pub returns-clause-rows : goal.returns-clause-rows
returns-clause-rows c = λ s answers sound are. driven_counts s sound answers are

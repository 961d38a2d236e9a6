use Rattle.lookahead_windows.proofs.WindowResult.{begins_opening, some_of_round, begins_consistent, window_here, overflow_here}
use Rattle.lookahead_windows.proofs.laws.a_part_reports_its_window.Goals as goal

pub returns-clause-opening : goal.returns-clause-opening
returns-clause-opening c = begins_opening

pub returns-clause-some : goal.returns-clause-some
returns-clause-some c = some_of_round

pub returns-clause-consistent : goal.returns-clause-consistent
returns-clause-consistent c = begins_consistent

pub returns-clause-window : goal.returns-clause-window
returns-clause-window c = window_here

pub returns-clause-overflow : goal.returns-clause-overflow
returns-clause-overflow c = overflow_here

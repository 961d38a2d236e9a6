use Rattle.lookahead_windows.proofs.Lots.{lot_none, lot_joins, lot_cut, lot_rises, lots_next}
use Rattle.lookahead_windows.proofs.LotWindows.{lot_of_window, lot_rest}
use Rattle.lookahead_windows.proofs.laws.lots_make_the_run.Goals as goal

pub returns-clause-window : goal.returns-clause-window
returns-clause-window c = lot_of_window

pub returns-clause-none : goal.returns-clause-none
returns-clause-none c = lot_none

pub returns-clause-join : goal.returns-clause-join
returns-clause-join c = lot_joins

pub returns-clause-cut : goal.returns-clause-cut
returns-clause-cut c = lot_cut

pub returns-clause-rises : goal.returns-clause-rises
returns-clause-rises c = lot_rises

pub returns-clause-rest : goal.returns-clause-rest
returns-clause-rest c = lot_rest

pub returns-clause-next : goal.returns-clause-next
returns-clause-next c = lots_next

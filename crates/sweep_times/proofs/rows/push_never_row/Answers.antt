use Rattle.drawing.proofs.Pushes.{and_then, and_last}
use Rattle.sweep_times.specs.Times.{never_row}
use Rattle.sweep_times.proofs.rows.push_never_row.Goals as goal

pub returns : goal.returns
unfolding never_row
returns c = and_last _ _ _ _ c.push_row_end.result (and_then _ _ _ c.in_ok-push_row_opening.ensures c.in_ok-push_markup.ensures) (rw c.never_confirmed.ensures at c.push_row_end.ensures)

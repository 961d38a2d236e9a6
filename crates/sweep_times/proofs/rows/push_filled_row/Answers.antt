use Rattle.drawing.proofs.Pushes.{and_then, and_last}
use Rattle.sweep_times.specs.Times.{filled_row}
use Rattle.sweep_times.proofs.rows.push_filled_row.Goals as goal

pub returns : goal.returns
unfolding filled_row
returns c = and_last _ _ _ _ c.push_row_end.result (and_then _ _ _ (and_then _ _ _ (and_then _ _ _ c.in_ok-push_row_opening.ensures (rw c.bin_start.ensures at c.in_ok-push_time_alone.ensures)) c.in_ok-push_markup.ensures) (rw (c.saturating_sub.ensures, c.bin_end.ensures) at c.in_ok-push_time_alone-2.ensures)) c.push_row_end.ensures

use Rattle.drawing.proofs.Pushes.{and_then, and_last}
use Rattle.sweep_times.specs.Times.{row_opening}
use Rattle.sweep_times.proofs.rows.push_row_opening.Goals as goal

pub returns : goal.returns
unfolding row_opening
returns c = and_last _ _ _ _ c.push_markup-2.result (and_then _ _ _ c.in_ok-push_markup.ensures c.in_ok-push_number.ensures) c.push_markup-2.ensures

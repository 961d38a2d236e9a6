use Rattle.drawing.proofs.Pushes.{and_then, and_last}
use Rattle.sweep_times.specs.Times.{row_end}
use Rattle.sweep_times.proofs.rows.push_row_end.Goals as goal

pub returns : goal.returns
unfolding row_end
returns c = and_last _ _ _ _ c.push_markup-2.result (and_then _ _ _ c.in_ok-push_markup.ensures c.in_ok-push_grouped.ensures) c.push_markup-2.ensures

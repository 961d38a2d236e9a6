use Rattle.drawing.proofs.Pushes.{and_then, and_last}
use Rattle.sweep_cells.specs.Cells.{time_cell}
use Rattle.sweep_cells.proofs.cells.push_time_cell.Goals as goal

pub returns : goal.returns
unfolding time_cell
returns c = and_last _ _ _ _ c.push_markup-2.result (and_then _ _ _ c.in_ok-push_markup.ensures c.in_ok-push_time.ensures) c.push_markup-2.ensures

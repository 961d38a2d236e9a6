use Rattle.drawing.proofs.Pushes.{and_then, and_last}
use Rattle.sweep_cells.specs.Cells.{cell}
use Rattle.sweep_cells.proofs.cells.push_cell.Goals as goal

pub returns : goal.returns
unfolding cell
returns c = and_last _ _ _ _ c.push_markup-2.result (and_then _ _ _ c.in_ok-push_markup.ensures c.in_ok-push_escaped.ensures) c.push_markup-2.ensures

use Rattle.drawing.proofs.Pushes.{and_then}
use Rattle.sweep_page.specs.Table.{row}
use Rattle.sweep_page.proofs.table.push_row.Goals as goal

pub returns : goal.returns
unfolding row
returns c = and_then _ _ _ (and_then _ _ _ (and_then _ _ _ (and_then _ _ _ (and_then _ _ _ (and_then _ _ _ c.in_ok-push_row_opening.ensures c.in_ok-push_number.ensures) c.in_ok-push_markup.ensures) c.in_ok-push_values.ensures) c.in_ok-push_figures.ensures) c.in_ok-push_day.ensures) c.in_ok-push_markup-2.ensures

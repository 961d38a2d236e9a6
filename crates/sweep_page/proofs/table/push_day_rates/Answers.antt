use Rattle.drawing.proofs.Pushes.{and_then, and_last}
use Rattle.sweep_page.specs.Table.{rate_cells}
use Rattle.sweep_page.proofs.table.push_day_rates.Goals as goal

pub returns : goal.returns
unfolding rate_cells
returns c = and_last _ _ _ _ c.push_markup-3.result (and_then _ _ _ (and_then _ _ _ (and_then _ _ _ c.in_ok-push_markup.ensures c.in_ok-push_hundredths.ensures) c.in_ok-push_markup-2.ensures) c.in_ok-push_hundredths_interval.ensures) c.push_markup-3.ensures

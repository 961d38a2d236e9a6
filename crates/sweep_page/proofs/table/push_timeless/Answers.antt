use Rattle.drawing.proofs.Pushes.{and_last}
use Rattle.sweep_page.specs.Table.{timeless_cells}
use Rattle.sweep_page.proofs.table.push_timeless.Goals as goal

pub returns : goal.returns
unfolding timeless_cells
returns c = and_last _ _ _ _ c.push_costs.result c.in_ok-push_shares.ensures c.push_costs.ensures

use Rattle.drawing.proofs.Pushes.{and_then, and_last}
use Rattle.sweep_page.specs.Table.{timed_cells}
use Rattle.sweep_page.proofs.table.push_timed.Goals as goal

pub returns : goal.returns
unfolding timed_cells
returns c = and_last _ _ _ _ c.push_costs.result (and_then _ _ _ (and_then _ _ _ (and_then _ _ _ (and_then _ _ _ (and_then _ _ _ (and_then _ _ _ c.in_ok-push_time_cell.ensures c.in_ok-push_shares.ensures) c.in_ok-push_time_cell-2.ensures) c.in_ok-push_time_cell-3.ensures) c.in_ok-push_time_cell-4.ensures) c.in_ok-push_time_cell-5.ensures) c.in_ok-push_time_cell-6.ensures) c.push_costs.ensures

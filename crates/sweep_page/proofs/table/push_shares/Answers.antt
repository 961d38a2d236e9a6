use Rattle.drawing.proofs.Pushes.{and_then, and_last}
use Rattle.sweep_page.specs.Table.{share_cells}
use Rattle.sweep_page.proofs.table.push_shares.Goals as goal

pub returns : goal.returns
unfolding share_cells
returns c = and_last _ _ _ _ c.push_deaths.result (and_then _ _ _ (and_then _ _ _ (and_then _ _ _ (and_then _ _ _ (and_then _ _ _ (and_then _ _ _ c.in_ok-push_markup.ensures c.in_ok-push_runs_with.ensures) c.in_ok-push_markup-2.ensures) (rw c.share_of.ensures at c.in_ok-push_percent.ensures)) c.in_ok-push_markup-3.ensures) (rw (c.thousandths.ensures, c.thousandths-2.ensures) at c.in_ok-push_interval.ensures)) c.in_ok-push_markup-4.ensures) c.push_deaths.ensures

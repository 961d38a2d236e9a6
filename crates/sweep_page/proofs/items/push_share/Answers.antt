use Rattle.drawing.proofs.Pushes.{and_then, and_last}
use Rattle.sweep_page.specs.Items.{share_span}
use Rattle.sweep_page.proofs.items.push_share.Goals as goal

pub returns : goal.returns
unfolding share_span
returns c = and_last _ _ _ _ c.push_markup-3.result (and_then _ _ _ (and_then _ _ _ (and_then _ _ _ c.in_ok-push_markup.ensures c.in_ok-push_runs_with.ensures) c.in_ok-push_markup-2.ensures) (rw (c.thousandths-low.ensures, c.thousandths-high.ensures) at c.in_ok-push_interval.ensures)) c.push_markup-3.ensures

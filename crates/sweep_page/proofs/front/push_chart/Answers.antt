use Rattle.drawing.proofs.Pushes.{and_then, and_last}
use Rattle.sweep_page.specs.Front.{front_chart}
use Rattle.sweep_page.proofs.front.push_chart.Goals as goal

pub returns : goal.returns
unfolding front_chart
returns c = and_last _ _ _ _ c.push_markup-2.result (and_then _ _ _ (and_then _ _ _ (and_then _ _ _ c.in_ok-push_markup.ensures c.in_ok-push_shares_up.ensures) c.in_ok-push_plane.ensures) c.in_ok-push_axis.ensures) c.push_markup-2.ensures

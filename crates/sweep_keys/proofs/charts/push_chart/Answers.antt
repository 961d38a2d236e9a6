use Rattle.drawing.proofs.Pushes.{and_then}
use Rattle.sweep_keys.specs.Keys.{key_chart}
use Rattle.sweep_keys.proofs.charts.push_chart.Goals as goal

pub returns : goal.returns
unfolding key_chart
returns c = and_then _ _ _ (and_then _ _ _ (and_then _ _ _ (and_then _ _ _ c.in_ok-push_chart_opening.ensures (rw c.plot_height-most.ensures.is at c.in_ok-push_time_up.ensures)) (rw c.plot_height-most.ensures.is at c.in_ok-push_plane.ensures)) c.in_ok-push_values.ensures) c.in_ok-push_markup.ensures

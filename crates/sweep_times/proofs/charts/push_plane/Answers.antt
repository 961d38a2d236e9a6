use Rattle.drawing.proofs.Pushes.{and_then}
use Rattle.sweep_times.specs.Charts.{times_plane}
use Rattle.sweep_times.proofs.charts.push_plane.Goals as goal

pub returns : goal.returns
unfolding times_plane
returns c = and_then _ _ _ (and_then _ _ _ (and_then _ _ _ (and_then _ _ _ (and_then _ _ _ c.in_ok-push_markup.ensures c.in_ok-open_times.ensures) c.in_ok-push_bars.ensures) c.in_ok-push_median.ensures) c.in_ok-close_plot.ensures) c.in_ok-push_markup-2.ensures

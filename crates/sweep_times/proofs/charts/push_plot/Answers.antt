use Rattle.drawing.proofs.Pushes.{and_then}
use Rattle.sweep_times.specs.Charts.{times_plot}
use Rattle.sweep_times.proofs.charts.push_plot.Goals as goal

pub returns : goal.returns
unfolding times_plot
returns c = and_then _ _ _ (and_then _ _ _ (and_then _ _ _ (and_then _ _ _ c.in_ok-push_markup.ensures (rw c.height_of-up.ensures.is at c.in_ok-push_up.ensures)) (rw c.height_of-up.ensures.is at c.in_ok-push_plane.ensures)) c.in_ok-push_time_across.ensures) c.in_ok-push_markup-2.ensures

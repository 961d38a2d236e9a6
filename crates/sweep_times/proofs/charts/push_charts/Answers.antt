use Rattle.drawing.proofs.Pushes.{and_then}
use Rattle.sweep_times.specs.Charts.{charts}
use Rattle.sweep_times.proofs.charts.push_charts.Goals as goal

pub returns : goal.returns
unfolding charts
returns c = and_then _ _ _ (and_then _ _ _ c.in_ok-push_markup.ensures c.in_ok-push_each_chart.ensures) c.in_ok-push_markup-2.ensures

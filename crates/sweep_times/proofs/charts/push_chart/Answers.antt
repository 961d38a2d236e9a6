use Rattle.drawing.proofs.Pushes.{and_then}
use Rattle.sweep_times.specs.Charts.{times_chart}
use Rattle.sweep_times.proofs.charts.push_chart.Goals as goal

pub returns : goal.returns
unfolding times_chart
returns c = and_then _ _ _ (and_then _ _ _ c.in_ok-push_heading.ensures c.in_ok-push_words.ensures) c.in_ok-push_plot.ensures

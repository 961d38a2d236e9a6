use Rattle.drawing.proofs.Pushes.{and_then}
use Rattle.sweep_keys.specs.Keys.{key_charts}
use Rattle.sweep_keys.proofs.keys.push_charts.Goals as goal

pub returns : goal.returns
unfolding key_charts
returns c = and_then _ _ _ (and_then _ _ _ (and_then _ _ _ (and_then _ _ _ c.in_ok-push_markup.ensures c.in_ok-push_chart.ensures) c.in_ok-push_chart-2.ensures) c.in_ok-push_chart-3.ensures) c.in_ok-push_markup-2.ensures

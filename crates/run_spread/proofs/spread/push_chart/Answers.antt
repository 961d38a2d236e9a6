use Rattle.drawing.proofs.Pushes.{and_then}
use Rattle.run_spread.specs.Spread.{spread_chart}
use Rattle.run_spread.proofs.spread.push_chart.Goals as goal

pub returns : goal.returns
unfolding spread_chart
returns c =
    and_then _ _ _ (and_then _ _ _ (and_then _ _ _ (and_then _ _ _ (and_then _ _ _ c.in_ok-open_chart.ensures c.in_ok-push_reached.ensures) c.in_ok-push_reached-2.ensures) c.in_ok-close_plot.ensures) c.in_ok-push_time_across.ensures) c.in_ok-push_str.ensures.bytes

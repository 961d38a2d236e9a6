use Rattle.drawing.proofs.Pushes.{and_then}
use Rattle.run_spread.specs.Spread.{spread_figure}
use Rattle.run_spread.proofs.spread.push_figure.Goals as goal

pub returns : goal.returns
unfolding spread_figure
returns c =
    and_then _ _ _ (and_then _ _ _ (and_then _ _ _ (and_then _ _ _ (and_then _ _ _ (and_then _ _ _ c.in_ok-open_figure.ensures c.in_ok-push_legend.ensures) c.in_ok-push_unwatched.ensures) c.in_ok-push_str.ensures.bytes) c.in_ok-push_crashes.ensures) c.in_ok-push_str-2.ensures.bytes) c.in_ok-close_figure.ensures

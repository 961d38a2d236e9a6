use Rattle.drawing.proofs.Pushes.{and_then}
use Rattle.sweep_times.specs.Times.{figure_of}
use Rattle.sweep_times.proofs.times.push_figure.Goals as goal

pub returns : goal.returns
unfolding figure_of
returns c = and_then _ _ _ (and_then _ _ _ (and_then _ _ _ (and_then _ _ _ (and_then _ _ _ c.in_ok-open_figure.ensures c.in_ok-push_words.ensures) (rw c.axis_reach-across.ensures.is at c.in_ok-push_charts.ensures)) c.in_ok-push_undrawn.ensures) c.in_ok-push_rows.ensures) c.in_ok-close_figure.ensures

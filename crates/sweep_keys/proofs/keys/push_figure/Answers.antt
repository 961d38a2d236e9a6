use Rattle.drawing.proofs.Pushes.{and_then}
use Rattle.sweep_keys.specs.Keys.{key_figure}
use Rattle.sweep_keys.proofs.keys.push_figure.Goals as goal

pub returns : goal.returns
unfolding key_figure
returns c = and_then _ _ _ (and_then _ _ _ (and_then _ _ _ (and_then _ _ _ c.in_ok-push_opening.ensures c.in_ok-push_legend.ensures) c.in_ok-push_charts.ensures) c.in_ok-push_rows.ensures) c.in_ok-close_figure.ensures

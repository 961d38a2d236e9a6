use Rattle.drawing.proofs.Pushes.{and_then, and_last}
use Rattle.sweep_keys.specs.Keys.{lines_plane}
use Rattle.sweep_keys.proofs.charts.push_plane.Goals as goal

pub returns : goal.returns
unfolding lines_plane
returns c = and_last _ _ _ _ c.push_markup-2.result (and_then _ _ _ (and_then _ _ _ (and_then _ _ _ c.in_ok-push_markup.ensures c.in_ok-open_lines.ensures) c.in_ok-push_lines.ensures) c.in_ok-close_plot.ensures) c.push_markup-2.ensures

use Rattle.drawing.proofs.Pushes.{and_then}
use Rattle.sweep_page.specs.Summary.{summary}
use Rattle.sweep_page.proofs.summary.push_summary.Goals as goal

pub returns : goal.returns
unfolding summary
returns c = and_then _ _ _ (and_then _ _ _ (and_then _ _ _ c.in_ok-open_figure.ensures c.in_ok-push_size.ensures) c.in_ok-push_front_of.ensures) c.in_ok-close_figure.ensures

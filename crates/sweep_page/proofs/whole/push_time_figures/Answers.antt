use Rattle.drawing.proofs.Pushes.{and_then}
use Rattle.sweep_page.specs.Page.{time_figures}
use Rattle.sweep_page.proofs.whole.push_time_figures.Goals as goal

pub returns : goal.returns
unfolding time_figures
returns c = and_then _ _ _ c.in_ok-push_times_of.ensures c.in_ok-push_keys.ensures

use Rattle.drawing.proofs.Pushes.{and_then}
use Rattle.sweep_page.specs.Best.{best_more}
use Rattle.sweep_page.proofs.best.push_best_more.Goals as goal

pub returns : goal.returns
unfolding best_more
returns c = and_then _ _ _ c.in_ok-push_ties_of.ensures c.in_ok-push_absence.ensures

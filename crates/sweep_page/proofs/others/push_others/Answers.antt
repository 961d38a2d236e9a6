use Rattle.drawing.proofs.Pushes.{and_then}
use Rattle.sweep_page.specs.Others.{others}
use Rattle.sweep_page.proofs.others.push_others.Goals as goal

pub returns : goal.returns
unfolding others
returns c = and_then _ _ _ c.in_ok-push_named.ensures c.in_ok-push_unnamed_of.ensures

use Rattle.drawing.proofs.Pushes.{and_then, and_last}
use Rattle.sweep_page.specs.Front.{joined}
use Rattle.sweep_page.proofs.marks.push_joined.Goals as goal

pub returns : goal.returns
unfolding joined
returns c = and_last _ _ _ _ c.push_markup-2.result (and_then _ _ _ c.in_ok-push_markup.ensures c.in_ok-push_joints.ensures) c.push_markup-2.ensures

use Rattle.drawing.proofs.Pushes.{and_then, and_last}
use Rattle.drawing.specs.Axes.{up_of}
use Rattle.drawing.proofs.axis.push_lengths_up.Goals as goal

pub returns : goal.returns
unfolding up_of
returns c = and_last _ _ _ _ c.push_markup-2.result (and_then _ _ _ c.in_ok-push_markup.ensures c.in_ok-push_steps_up.ensures) c.push_markup-2.ensures

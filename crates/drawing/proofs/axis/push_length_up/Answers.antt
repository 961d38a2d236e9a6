use Rattle.drawing.proofs.Pushes.{and_then, and_last}
use Rattle.drawing.specs.Axes.{length_up}
use Rattle.drawing.proofs.axis.push_length_up.Goals as goal

pub returns : goal.returns
unfolding length_up
returns c = and_last _ _ _ _ c.push_markup-3.result (and_then _ _ _ (and_then _ _ _ (and_then _ _ _ c.in_ok-push_markup.ensures c.in_ok-push_place_of.ensures) c.in_ok-push_markup-2.ensures) c.in_ok-push_length.ensures) c.push_markup-3.ensures

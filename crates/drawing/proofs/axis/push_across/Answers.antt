use Rattle.drawing.proofs.Pushes.{and_then, and_last}
use Rattle.drawing.specs.Axes.{across_of}
use Rattle.drawing.proofs.axis.push_across.Goals as goal

pub returns : goal.returns
unfolding across_of
returns c = and_last _ _ _ _ c.push_markup-3.result (and_then _ _ _ (and_then _ _ _ (and_then _ _ _ c.in_ok-push_markup.ensures c.in_ok-push_ticks.ensures) c.in_ok-push_markup-2.ensures) c.in_ok-push_escaped.ensures) c.push_markup-3.ensures

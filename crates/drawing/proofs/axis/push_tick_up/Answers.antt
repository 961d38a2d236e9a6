use Rattle.drawing.proofs.Pushes.{and_then, and_last}
use Rattle.drawing.specs.Axes.{tick_up}
use Rattle.drawing.proofs.axis.push_tick_up.Goals as goal

pub returns : goal.returns
unfolding tick_up
returns c = and_last _ _ _ _ c.push_markup-3.result (and_then _ _ _ (and_then _ _ _ (and_then _ _ _ c.in_ok-push_markup.ensures c.in_ok-push_place.ensures) c.in_ok-push_markup-2.ensures) c.in_ok-push_grouped.ensures) c.push_markup-3.ensures

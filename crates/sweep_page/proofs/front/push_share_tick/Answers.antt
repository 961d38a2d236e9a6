use Rattle.drawing.proofs.Pushes.{and_then, and_last}
use Rattle.sweep_page.specs.Front.{share_tick}
use Rattle.sweep_page.proofs.front.push_share_tick.Goals as goal

pub returns : goal.returns
unfolding share_tick
returns c = and_last _ _ _ _ c.push_markup-3.result (and_then _ _ _ (and_then _ _ _ (and_then _ _ _ c.in_ok-push_markup.ensures c.in_ok-push_place.ensures) c.in_ok-push_markup-2.ensures) c.in_ok-push_percent.ensures) c.push_markup-3.ensures

use Rattle.drawing.proofs.Pushes.{and_then, and_last}
use Rattle.sweep_page.specs.Front.{shares_up}
use Rattle.sweep_page.proofs.front.push_shares_up.Goals as goal

pub returns : goal.returns
unfolding shares_up
returns c = and_last _ _ _ _ c.push_markup-2.result (and_then _ _ _ c.in_ok-push_markup.ensures c.in_ok-push_share_ticks.ensures) c.push_markup-2.ensures

use Rattle.drawing.proofs.Pushes.{and_then, and_last}
use Rattle.sweep_page.specs.Items.{item_end}
use Rattle.sweep_page.proofs.items.push_item_end.Goals as goal

pub returns : goal.returns
unfolding item_end
returns c = and_last _ _ _ _ c.push_markup-3.result (and_then _ _ _ c.in_ok-push_markup.ensures c.in_ok-push_markup-2.ensures) c.push_markup-3.ensures

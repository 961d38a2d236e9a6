use Rattle.drawing.proofs.Pushes.{and_then}
use Rattle.sweep_page.specs.Items.{item}
use Rattle.sweep_page.proofs.items.push_item.Goals as goal

pub returns : goal.returns
unfolding item
returns c = and_then _ _ _ (and_then _ _ _ (and_then _ _ _ (and_then _ _ _ (and_then _ _ _ (and_then _ _ _ ((rw c.safety-class.ensures at c.in_ok-push_item_opening.ensures)) c.in_ok-push_swept_keys_at.ensures) c.in_ok-push_markup.ensures) c.in_ok-push_speed.ensures) c.in_ok-push_share.ensures) c.in_ok-push_cost.ensures) (rw c.safety-class.ensures at c.in_ok-push_item_end.ensures)

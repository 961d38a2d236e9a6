use Rattle.drawing.proofs.Pushes.{and_then}
use Rattle.sweep_page.specs.Others.{other_item}
use Rattle.sweep_page.proofs.others.push_other.Goals as goal

pub returns : goal.returns
unfolding other_item
returns c = and_then _ _ _ (and_then _ _ _ (and_then _ _ _ (and_then _ _ _ c.in_ok-push_markup.ensures c.in_ok-push_number.ensures) c.in_ok-push_markup-2.ensures) c.in_ok-push_swept_keys_at.ensures) c.in_ok-push_markup-3.ensures

use Rattle.drawing.proofs.Pushes.{and_then}
use Rattle.sweep_page.specs.Front.{front_row}
use Rattle.sweep_page.proofs.front.push_row.Goals as goal

pub returns : goal.returns
unfolding front_row
returns c = and_then _ _ _ (and_then _ _ _ (and_then _ _ _ (and_then _ _ _ (and_then _ _ _ (and_then _ _ _ (and_then _ _ _ (and_then _ _ _ (and_then _ _ _ c.in_ok-push_markup.ensures c.in_ok-push_number.ensures) c.in_ok-push_markup-2.ensures) c.in_ok-push_swept_keys_at.ensures) c.in_ok-push_markup-3.ensures) c.in_ok-push_confirm_cell.ensures) c.in_ok-push_shares.ensures) c.in_ok-push_markup-4.ensures) c.in_ok-push_rate.ensures) c.in_ok-push_markup-5.ensures

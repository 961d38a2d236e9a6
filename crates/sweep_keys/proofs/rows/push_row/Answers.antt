use Rattle.drawing.proofs.Pushes.{and_then}
use Rattle.sweep_keys.specs.Keys.{key_row}
use Rattle.sweep_keys.proofs.rows.push_row.Goals as goal

pub returns : goal.returns
unfolding key_row
returns c = and_then _ _ _ (and_then _ _ _ (and_then _ _ _ (and_then _ _ _ (and_then _ _ _ (and_then _ _ _ c.in_ok-push_markup.ensures (rw (c.as_str.ensures.value, c.in_ok-words.ensures) at c.in_ok-push_cell.ensures)) c.in_ok-push_markup-2.ensures) (rw c.place.ensures at c.in_ok-push_others_at.ensures)) c.in_ok-push_markup-3.ensures) c.in_ok-push_times_over.ensures) c.in_ok-push_markup-4.ensures

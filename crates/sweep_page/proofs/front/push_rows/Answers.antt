use Rattle.drawing.proofs.Pushes.{and_then}
use Rattle.sweep_page.specs.Front.{front_table}
use Rattle.sweep_page.proofs.front.push_rows.Goals as goal

pub returns : goal.returns
unfolding front_table
returns c = and_then _ _ _ (and_then _ _ _ (and_then _ _ _ (and_then _ _ _ c.in_ok-push_heads_opening.ensures c.in_ok-push_confirm_head.ensures) c.in_ok-push_heads_end.ensures) c.in_ok-push_rows_of.ensures) c.in_ok-push_markup.ensures

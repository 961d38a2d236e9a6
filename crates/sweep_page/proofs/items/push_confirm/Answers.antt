use Rattle.drawing.proofs.Pushes.{and_then, and_last}
use Rattle.sweep_page.specs.Items.{confirm_span}
use Rattle.sweep_page.proofs.items.push_confirm.Goals as goal

pub returns : goal.returns
unfolding confirm_span
returns c = and_last _ _ _ _ c.push_markup-3.result (and_then _ _ _ (and_then _ _ _ (and_then _ _ _ c.in_ok-push_markup.ensures c.in_ok-push_time.ensures) c.in_ok-push_markup-2.ensures) c.in_ok-push_lasting_of.ensures) c.push_markup-3.ensures

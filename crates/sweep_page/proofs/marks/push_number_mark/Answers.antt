use Rattle.drawing.proofs.Pushes.{and_then, and_last}
use Rattle.sweep_page.specs.Front.{number_mark}
use Rattle.sweep_page.proofs.marks.push_number_mark.Goals as goal

pub returns : goal.returns
unfolding number_mark
returns c = and_last _ _ _ _ c.push_markup-4.result (and_then _ _ _ (and_then _ _ _ (and_then _ _ _ (and_then _ _ _ (and_then _ _ _ c.in_ok-push_markup.ensures c.in_ok-push_place.ensures) c.in_ok-push_markup-2.ensures) c.in_ok-push_place-2.ensures) c.in_ok-push_markup-3.ensures) c.in_ok-push_number.ensures) c.push_markup-4.ensures

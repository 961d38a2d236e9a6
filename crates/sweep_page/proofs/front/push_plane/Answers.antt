use Rattle.drawing.proofs.Pushes.{and_then, and_last}
use Rattle.sweep_page.specs.Front.{plane}
use Rattle.sweep_page.proofs.front.push_plane.Goals as goal

pub returns : goal.returns
unfolding plane
returns c = and_last _ _ _ _ c.push_markup-2.result (and_then _ _ _ (and_then _ _ _ (and_then _ _ _ (and_then _ _ _ (and_then _ _ _ (and_then _ _ _ c.in_ok-push_markup.ensures c.in_ok-open_plane.ensures) c.in_ok-push_marks.ensures) c.in_ok-push_joined.ensures) c.in_ok-push_marks-2.ensures) c.in_ok-close_plot.ensures) c.in_ok-push_numbers.ensures) c.push_markup-2.ensures

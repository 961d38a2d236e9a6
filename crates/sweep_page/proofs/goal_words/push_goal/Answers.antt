use Rattle.drawing.proofs.Pushes.{and_then, and_last}
use Rattle.sweep_page.specs.Goals.{goal_item}
use Rattle.sweep_page.proofs.goal_words.push_goal.Goals as goal

pub returns : goal.returns
unfolding goal_item
returns c = and_last _ _ _ _ c.push_markup-4.result (and_then _ _ _ (and_then _ _ _ (and_then _ _ _ (and_then _ _ _ c.in_ok-push_markup.ensures (rw c.figure_words-words.ensures at c.in_ok-push_markup-2.ensures)) (rw c.shown_bound-bound.ensures at c.in_ok-push_millionths.ensures)) (rw c.unit-unit.ensures at c.in_ok-push_markup-3.ensures)) c.in_ok-push_escaped.ensures) c.push_markup-4.ensures

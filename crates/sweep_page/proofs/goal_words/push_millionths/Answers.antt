use Rattle.drawing.proofs.Pushes.{and_then, and_last}
use Rattle.sweep_page.specs.Goals.{number}
use Rattle.sweep_page.proofs.goal_words.push_millionths.Goals as goal

pub returns : goal.returns
unfolding number
returns c = and_last _ _ _ _ c.push_digit-6.result (and_then _ _ _ (and_then _ _ _ (and_then _ _ _ (and_then _ _ _ (and_then _ _ _ (and_then _ _ _ (rw c.whole_of-whole.ensures at c.in_ok-push_grouped.ensures) c.in_ok-push_point.ensures) c.in_ok-push_digit.ensures) c.in_ok-push_digit-2.ensures) c.in_ok-push_digit-3.ensures) c.in_ok-push_digit-4.ensures) c.in_ok-push_digit-5.ensures) c.push_digit-6.ensures

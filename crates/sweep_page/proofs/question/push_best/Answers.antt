use Rattle.drawing.proofs.Pushes.{and_then}
use Rattle.sweep_page.specs.Question.{best_answer}
use Rattle.sweep_page.proofs.question.push_best.Goals as goal

pub returns : goal.returns
unfolding best_answer
returns c = and_then _ _ _ (and_then _ _ _ (and_then _ _ _ (and_then _ _ _ c.in_ok-push_markup.ensures c.in_ok-push_item_at.ensures) c.in_ok-push_markup-2.ensures) c.in_ok-push_caution_at.ensures) c.in_ok-push_best_more_at.ensures

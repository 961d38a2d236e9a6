use Rattle.drawing.proofs.Pushes.{and_then}
use Rattle.sweep_page.specs.Question.{open_answer}
use Rattle.sweep_page.proofs.question.push_open.Goals as goal

pub returns : goal.returns
unfolding open_answer
returns c = and_then _ _ _ (and_then _ _ _ c.in_ok-push_markup.ensures c.in_ok-push_each_open.ensures) c.in_ok-push_markup-2.ensures

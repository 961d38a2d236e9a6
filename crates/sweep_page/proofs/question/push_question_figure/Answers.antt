use Rattle.drawing.proofs.Pushes.{and_then}
use Rattle.sweep_page.specs.Question.{question_figure}
use Rattle.sweep_page.proofs.question.push_question_figure.Goals as goal

pub returns : goal.returns
unfolding question_figure
returns c = and_then _ _ _ (and_then _ _ _ (and_then _ _ _ c.in_ok-open_figure.ensures c.in_ok-push_goals.ensures) c.in_ok-push_answer.ensures) c.in_ok-close_figure.ensures

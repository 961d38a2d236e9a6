use Rattle.drawing.proofs.Pushes.{and_then, and_last}
use Rattle.sweep_page.specs.Question.{goals_words}
use Rattle.sweep_page.proofs.question.push_goals.Goals as goal

pub returns : goal.returns
unfolding goals_words
returns c = and_last _ _ _ _ c.push_markup-2.result (and_then _ _ _ c.in_ok-push_markup.ensures c.in_ok-push_each_goal.ensures) c.push_markup-2.ensures

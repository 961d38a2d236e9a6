use Rattle.drawing.proofs.Pushes.{and_then, and_last}
use Rattle.sweep_page.specs.Question.{runs_needed}
use Rattle.sweep_page.proofs.question.push_runs_needed.Goals as goal

pub returns : goal.returns
unfolding runs_needed
returns c = and_last _ _ _ _ c.push_markup-2.result (and_then _ _ _ c.in_ok-push_markup.ensures c.in_ok-push_runs.ensures) (rw c.needed_words.ensures at c.push_markup-2.ensures)

use Rattle.drawing.proofs.Pushes.{and_then}
use Rattle.sweep_page.specs.Question.{open_item}
use Rattle.sweep_page.proofs.question.push_open_item.Goals as goal

pub returns : goal.returns
unfolding open_item
returns c = and_then _ _ _ (and_then _ _ _ (and_then _ _ _ (and_then _ _ _ (and_then _ _ _ (and_then _ _ _ c.in_ok-push_markup.ensures c.in_ok-push_number.ensures) c.in_ok-push_markup-2.ensures) c.in_ok-push_swept_keys_at.ensures) c.in_ok-push_markup-3.ensures) c.in_ok-push_more_needed.ensures) c.in_ok-push_markup-4.ensures

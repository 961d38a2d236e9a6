use Rattle.drawing.proofs.Pushes.{and_then}
use Rattle.sweep_page.specs.Summary.{told_words}
use Rattle.sweep_page.proofs.summary.push_told.Goals as goal

pub returns : goal.returns
unfolding told_words
returns c = and_then _ _ _ (and_then _ _ _ (and_then _ _ _ (and_then _ _ _ c.in_ok-push_front_opening.ensures c.in_ok-push_safety_words.ensures) c.in_ok-push_first.ensures) c.in_ok-push_markup.ensures) c.in_ok-push_rest.ensures

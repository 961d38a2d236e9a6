use Rattle.drawing.proofs.Pushes.{and_then}
use Rattle.sweep_page.specs.Best.{ties_words}
use Rattle.sweep_page.proofs.best.push_ties_words.Goals as goal

pub returns : goal.returns
unfolding ties_words
returns c = and_then _ _ _ (and_then _ _ _ (and_then _ _ _ c.in_ok-push_markup.ensures c.in_ok-push_count.ensures) c.in_ok-push_others.ensures) c.in_ok-push_markup-2.ensures

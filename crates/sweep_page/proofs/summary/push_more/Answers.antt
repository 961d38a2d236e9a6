use Rattle.drawing.proofs.Pushes.{and_then, and_last}
use Rattle.sweep_page.specs.Summary.{more_words}
use Rattle.sweep_page.proofs.summary.push_more.Goals as goal

pub returns : goal.returns
unfolding more_words
returns c = and_last _ _ _ _ c.push_markup-2.result (and_then _ _ _ (rw c.listed_words-listed.ensures at c.in_ok-push_markup.ensures) c.in_ok-push_count.ensures) c.push_markup-2.ensures

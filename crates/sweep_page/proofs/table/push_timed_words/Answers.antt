use Rattle.drawing.proofs.Pushes.{and_then, and_last}
use Rattle.sweep_page.specs.Table.{timed_words}
use Rattle.sweep_page.proofs.table.push_timed_words.Goals as goal

pub returns : goal.returns
unfolding timed_words
returns c = and_last _ _ _ _ c.push_markup-3.result (and_then _ _ _ c.in_ok-push_markup.ensures (rw c.since_words-since.ensures at c.in_ok-push_markup-2.ensures)) c.push_markup-3.ensures

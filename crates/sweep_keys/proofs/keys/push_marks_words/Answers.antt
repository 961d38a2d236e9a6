use Rattle.drawing.proofs.Pushes.{and_then, and_last}
use Rattle.sweep_keys.specs.Keys.{marks_words}
use Rattle.sweep_keys.proofs.keys.push_marks_words.Goals as goal

pub returns : goal.returns
unfolding marks_words
returns c = and_last _ _ _ _ c.push_markup-3.result (and_then _ _ _ c.in_ok-push_markup.ensures (rw c.counted_word-counted.ensures at c.in_ok-push_markup-2.ensures)) c.push_markup-3.ensures

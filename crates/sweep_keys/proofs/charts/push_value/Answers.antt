use Rattle.drawing.proofs.Pushes.{and_then}
use Rattle.sweep_keys.specs.Keys.{value_word}
use Rattle.sweep_keys.proofs.charts.push_value.Goals as goal

pub returns : goal.returns
unfolding value_word
returns c = and_then _ _ _ (and_then _ _ _ (and_then _ _ _ (and_then _ _ _ c.in_ok-push_markup.ensures (rw (c.middle.ensures, c.width.ensures) at c.in_ok-push_place.ensures)) c.in_ok-push_markup-2.ensures) (rw (c.as_str.ensures.value, c.in_ok-words.ensures) at c.in_ok-push_escaped.ensures)) c.in_ok-push_markup-3.ensures

use Rattle.drawing.proofs.Pushes.{and_then, and_last}
use Rattle.sweep_keys.specs.Keys.{chart_opening}
use Rattle.sweep_keys.proofs.charts.push_chart_opening.Goals as goal

pub returns : goal.returns
unfolding chart_opening
returns c = and_last _ _ _ _ c.push_markup-3.result (and_then _ _ _ c.in_ok-push_markup.ensures (rw c.words-words.ensures at c.in_ok-push_markup-2.ensures)) c.push_markup-3.ensures

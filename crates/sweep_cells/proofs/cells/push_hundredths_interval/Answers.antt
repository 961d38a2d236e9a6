use Rattle.drawing.proofs.Pushes.{and_then, and_last}
use Rattle.sweep_cells.specs.Words.{hundredths_interval_words}
use Rattle.sweep_cells.proofs.cells.push_hundredths_interval.Goals as goal

pub returns : goal.returns
unfolding hundredths_interval_words
returns c = and_last _ _ _ _ c.push_hundredths-2.result (and_then _ _ _ c.in_ok-push_hundredths.ensures c.in_ok-push_markup.ensures) c.push_hundredths-2.ensures

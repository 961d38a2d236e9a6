use Rattle.drawing.proofs.Pushes.{and_then, and_last}
use Rattle.sweep_cells.specs.Words.{interval_words}
use Rattle.sweep_cells.proofs.cells.push_interval.Goals as goal

pub returns : goal.returns
unfolding interval_words
returns c = and_last _ _ _ _ c.push_percent-2.result (and_then _ _ _ c.in_ok-push_percent.ensures c.in_ok-push_markup.ensures) c.push_percent-2.ensures

use Rattle.drawing.proofs.Pushes.{and_then, and_last}
use Rattle.sweep_cells.specs.Words.{runs_words}
use Rattle.sweep_cells.proofs.cells.push_runs_with.Goals as goal

pub returns : goal.returns
unfolding runs_words
returns c = and_last _ _ _ _ c.push_grouped-2.result (and_then _ _ _ c.in_ok-push_grouped.ensures c.in_ok-push_markup.ensures) c.push_grouped-2.ensures

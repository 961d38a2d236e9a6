use Rattle.drawing.proofs.Pushes.{and_last}
use Rattle.sweep_cells.specs.Words.{count_words}
use Rattle.sweep_cells.proofs.cells.push_count.Goals as goal

pub returns : goal.returns
unfolding count_words
returns c = and_last _ _ _ _ c.push_noun.result c.in_ok-push_grouped.ensures c.push_noun.ensures

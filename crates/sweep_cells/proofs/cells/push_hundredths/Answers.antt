use Rattle.std.proofs.Common.{append_assoc}
use Rattle.sweep_cells.specs.Words.{hundredths_words}
use Rattle.sweep_cells.proofs.cells.push_hundredths.Goals as goal

pub returns : goal.returns
unfolding hundredths_words
returns c = simp append_assoc c.write.ensures.bytes

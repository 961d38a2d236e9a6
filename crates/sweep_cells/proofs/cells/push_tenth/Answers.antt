use Rattle.std.proofs.Common.{append_assoc}
use Rattle.sweep_cells.specs.Words.{tenth_percent}
use Rattle.sweep_cells.proofs.cells.push_tenth.Goals as goal

pub returns : goal.returns
unfolding tenth_percent
returns c = simp append_assoc c.write.ensures.bytes

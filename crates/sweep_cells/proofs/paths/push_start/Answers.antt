use Rattle.std.proofs.Common.{append_assoc}
use Rattle.sweep_cells.specs.Paths.{path_start}
use Rattle.sweep_cells.proofs.paths.push_start.Goals as goal

pub returns : goal.returns
unfolding path_start
returns c = simp append_assoc c.write.ensures.bytes

use Rattle.std.proofs.Common.{append_assoc}
use Rattle.sweep_cells.specs.Paths.{path_step}
use Rattle.sweep_cells.proofs.paths.push_step.Goals as goal

pub returns : goal.returns
unfolding path_step
returns c = simp append_assoc c.write.ensures.bytes

use Rattle.std.proofs.Common.{append_assoc}
use Rattle.sweep_keys.specs.Keys.{path_line}
use Rattle.sweep_keys.proofs.line.push_path.Goals as goal

pub returns : goal.returns
unfolding path_line
returns c = simp append_assoc c.write.ensures.bytes

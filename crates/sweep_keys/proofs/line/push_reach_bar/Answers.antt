use Rattle.std.proofs.Common.{append_assoc}
use Rattle.sweep_keys.specs.Keys.{reach_bar}
use Rattle.sweep_keys.proofs.line.push_reach_bar.Goals as goal

pub returns : goal.returns
unfolding reach_bar
returns c = simp append_assoc c.write.ensures.bytes

use Rattle.std.proofs.Common.{append_assoc}
use Rattle.sweep_keys.specs.Keys.{median_dot}
use Rattle.sweep_keys.proofs.line.push_median_dot.Goals as goal

pub returns : goal.returns
unfolding median_dot
returns c = simp append_assoc c.write.ensures.bytes

use Rattle.std.proofs.Common.{append_assoc}
use Rattle.sweep_keys.specs.Keys.{sample}
use Rattle.sweep_keys.proofs.legend.push_sample.Goals as goal

pub returns : goal.returns
unfolding sample
returns c = simp append_assoc c.write.ensures.bytes

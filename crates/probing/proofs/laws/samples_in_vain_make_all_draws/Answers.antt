use Rattle.std.proofs.Common.{◌*◌, length}
use Rattle.probing.specs.Samples.{sample_of}
use Rattle.probing.proofs.SampleLemmas.{in_vain}
use Rattle.probing.proofs.laws.samples_in_vain_make_all_draws.Goals as goal

pub returns : goal.returns
unfolding sample_of
returns c words k candidates some none = in_vain (3 * length candidates) k candidates words some none

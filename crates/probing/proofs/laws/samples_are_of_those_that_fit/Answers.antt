use Rattle.std.proofs.Common.{◌*◌, length}
use Rattle.probing.specs.Samples.{sample_of}
use Rattle.probing.proofs.SampleLemmas.{sampled_few, sampled_fit, sampled_once}
use Rattle.probing.proofs.laws.samples_are_of_those_that_fit.Goals as goal

pub returns-clause-number : goal.returns-clause-number
unfolding sample_of
returns-clause-number c words k candidates = sampled_few (3 * length candidates) k candidates words

pub returns-clause-each : goal.returns-clause-each
unfolding sample_of
returns-clause-each c words k candidates = sampled_fit (3 * length candidates) k candidates words

pub returns-clause-once : goal.returns-clause-once
unfolding sample_of
returns-clause-once c words k candidates = sampled_once (3 * length candidates) k candidates words

use Rattle.probing.proofs.MixedLemmas.{mixed_same}
use Rattle.probing.proofs.laws.a_mix_keeps_the_members.Goals as goal

pub returns : goal.returns
returns c = mixed_same

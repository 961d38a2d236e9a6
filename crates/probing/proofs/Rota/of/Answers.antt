use Rattle.std.proofs.Common.{arith}
use Rattle.probing.proofs.CallLemmas.{sound_of}
use Rattle.probing.proofs.Rota.of.Goals as goal

pub invariant_of-result : goal.invariant_of-result
invariant_of-result c = record {
  sound = sound_of _ _ _ c.requires c.deref.ensures.value c.see_numbers.ensures (omega (arith, c.len-mark.ensures));
  ahead = λ place other from same within. absurd (omega (arith, from, within, c.len-mark.ensures));
}

pub returns-clause-sound : goal.returns-clause-sound
returns-clause-sound c = (invariant_of-result c).sound

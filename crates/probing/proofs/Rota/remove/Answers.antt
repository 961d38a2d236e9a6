use Rattle.std.proofs.Common.{arith}
use Rattle.std.proofs.lemmas.Bool.Decides.{nat_tests}
use Rattle.probing.proofs.CallLemmas.{sound_removed}
use Rattle.probing.proofs.Rota.remove.Goals as goal

pub invariant_of-self : goal.invariant_of-self
invariant_of-self c = record {
  sound =
      sound_removed c.self.inside.members.items _ _ _ _ _ _ c.self.invariant.sound c.deref.ensures.value c.in-Some.ensures
      c.remove.ensures.items (grind (arith, nat_tests, c.mark_without-self-inside.ensures));
  ahead = rw c.deref-2.ensures.value at c.sixteen_from-self-inside.ensures;
}

pub returns-clause-sound : goal.returns-clause-sound
returns-clause-sound c = (invariant_of-self c).sound

use Rattle.std.proofs.Common.{refl, ap, ◌∙◌, arith}
use Rattle.std.proofs.lemmas.Bool.Decides.{nat_tests}
use Rattle.probing.specs.ProbeOrder.{ProbeOrder, times_in}
use Rattle.probing.proofs.SoundLemmas.{members_bounded}
use Rattle.probing.proofs.CallLemmas.{sound_inserted}
use Rattle.probing.proofs.Rota.insert.Goals as goal

pub overflow_cast-len : goal.overflow_cast-len
overflow_cast-len c = omega (arith, members_bounded _ c.self.invariant.sound.listed, c.len.ensures, c.reserve.ensures.len)

pub overflow_add-len : goal.overflow_add-len
overflow_add-len c = omega (arith, members_bounded _ c.self.invariant.sound.listed, c.len.ensures, c.reserve.ensures.len)

pub mark_with-self-inside-requires : goal.mark_with-self-inside-requires
mark_with-self-inside-requires c = omega (arith, members_bounded _ c.self.invariant.sound.listed, c.self.invariant.sound.within)

pub invariant_of-self-2 : goal.invariant_of-self-2
invariant_of-self-2 c = record {
  sound =
      sound_inserted c.self.inside.members.items _ _ _ _ _ _ _ c.self.invariant.sound c.reserve.ensures.items c.insert.ensures.items
      (rw c.unwrap.ensures refl) (omega (arith, c.below-place.ensures.within, c.len.ensures, c.reserve.ensures.len)) (grind (arith, nat_tests, c.mark_with-self-inside.ensures))
      (c.see_numbers.ensures 0 0 (omega arith))
      (ap (λ (order : ProbeOrder). times_in order.members c.args.member) c.self.view_is ∙ c.requires);
  ahead = rw c.deref.ensures.value at c.sixteen_from-self-inside.ensures;
}

pub returns-clause-sound : goal.returns-clause-sound
returns-clause-sound c = (invariant_of-self-2 c).sound

use Rattle.std.proofs.Common.{◌≡◌, ◌+◌, ◌<◌, ◌≤◌, ◌^◌, length, arith}
use Rattle.std.specs.List.Sorted.{IsPermutation}
use Rattle.std.proofs.lemmas.List.{with_items_is}
use Rattle.std.proofs.lemmas.List.Sorted.{length_permutation}
use Rattle.probing.proofs.SoundLemmas.{members_bounded}
use Rattle.probing.proofs.MixedLemmas.{sound_mixed, mixed_from}
use Rattle.probing.proofs.Rota.mix.Goals as goal

pub overflow_cast-len : goal.overflow_cast-len
overflow_cast-len c = omega (arith, members_bounded _ c.self.invariant.sound.listed, c.len.ensures)

pub overflow_add-len : goal.overflow_add-len
overflow_add-len c = omega (arith, members_bounded _ c.self.invariant.sound.listed, c.len.ensures)

pub invariant_of-self : goal.invariant_of-self
invariant_of-self c =
    let same : IsPermutation c.self.inside.members.items c.shuffle.new.items = rw c.deref_mut.ensures.value at c.shuffle.ensures.permutation in
    let kept = length_permutation _ _ c.shuffle.ensures.permutation in
    let is = with_items_is c.self.inside.members c.shuffle.new.items (omega (arith, kept, c.deref_mut.ensures.len)) in
    record {
      sound = sound_mixed _ _ _ _ _ c.self.invariant.sound same is (omega (arith, c.below.ensures.within, c.len.ensures));
      ahead = rw c.deref.ensures.value at c.sixteen_from-self-inside.ensures;
    }

pub returns-clause-drawn : goal.returns-clause-drawn
returns-clause-drawn c =
    let kept = length_permutation _ _ c.shuffle.ensures.permutation in
    let is = with_items_is c.self.inside.members c.shuffle.new.items (omega (arith, kept, c.deref_mut.ensures.len)) in
    rw (← c.self.view_is) (mixed_from _ _ _ _ _ _ _ _ _ (rw c.deref_mut.ensures.value at c.shuffle.ensures.drawn) is (omega (arith, c.len.ensures)) c.below.ensures.drawn)

pub returns-clause-sound : goal.returns-clause-sound
returns-clause-sound c = (invariant_of-self c).sound

use Rattle.std.proofs.Common.{◌<◌, length, refl, arith}
use Rattle.std.specs.List.Sorted.{IsPermutation}
use Rattle.std.proofs.lemmas.List.{with_items_is}
use Rattle.std.proofs.lemmas.List.Sorted.{length_permutation}
use Rattle.std.proofs.lemmas.Bool.Decides.{nat_tests}
use Rattle.streams.specs.Draw.{words_of}
use Rattle.probing.specs.Ahead.{AreAhead}
use Rattle.probing.proofs.CallLemmas.{IsReady, ready_after_shuffle, ready_within, next_from_ready}
use Rattle.probing.proofs.Rota.next.Goals as goal
use Rattle.probing.proofs.Rota.next.Goals.{then-self-len, else-self-len}

-- there are members
some_members : (c : goal.After-self-3-1) → 0 < length c.self.inside.members.items
some_members c = grind (arith, nat_tests, c.if-is_empty.ensures)

-- after the `if`: from here the next is taken, and it is the one ahead
ready_here : (c : goal.After-self-3-1)
    → IsReady (words_of c.args.stream.now) (record { members = c.self.inside.members.items; mark = c.self.inside.mark })
    (words_of c.if-self-len.stream) c.if-self-len.self-inside.members.items c.if-self-len.self-inside.mark
    × AreAhead c.if-self-len.self-inside.members.items c.if-self-len.self-inside.mark c.if-self-len.self-inside.ahead
ready_here c =
    elim c.if-self-len.branch [
      | then-self-len w ↦
          let same : IsPermutation c.self.inside.members.items w.shuffle.new.items =
          rw w.deref_mut.ensures.value at w.shuffle.ensures.permutation in
          let length_kept = length_permutation _ _ w.shuffle.ensures.permutation in
          let ready = ready_after_shuffle _ _ _ _ _ _ c.self.invariant.sound (some_members c)
          (omega (arith, w.if-self-len.true, c.len.ensures)) same
          (rw w.deref_mut.ensures.value at w.shuffle.ensures.drawn)
          (with_items_is c.self.inside.members w.shuffle.new.items (omega (arith, length_kept, w.deref_mut.ensures.len))) in
          rw (w.self-inside-is, w.stream-is) (ready, rw w.deref.ensures.value at w.sixteen_from-self-inside.ensures)
      | else-self-len w ↦
          let ready = ready_within _ _ _ c.self.invariant.sound (λ end. w.if-self-len.false (omega (arith, end, c.len.ensures))) in
          rw (w.self-inside-is, w.stream-is) (ready, c.self.invariant.ahead)
    ]

pub invariant_of-self : goal.invariant_of-self
invariant_of-self c =
    let ready = (ready_here c).0 in
    record {
      sound = record { listed = ready.listed; within = omega (arith, ready.within) };
      ahead = (rw c.deref-2.ensures.value at c.sixteen_at-self-inside.ensures) _ refl (ready_here c).1;
    }

pub returns-clause-drawn : goal.returns-clause-drawn
returns-clause-drawn c =
    rw (← c.self.view_is) (next_from_ready _ _ _ _ _ _ (some_members c) (ready_here c).0 ((ready_here c).1 _ _ (omega arith) refl (ready_here c).0.within))

pub returns-clause-sound : goal.returns-clause-sound
returns-clause-sound c = (invariant_of-self c).sound

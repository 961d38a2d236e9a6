use Rattle.std.proofs.Common.{ap, ◌∙◌, sym, subst, IsSomeAnd}
use Rattle.base.specs.Run.{IsFirst}
use Rattle.worker_queue.specs.SetOf.{set_of}
use Rattle.worker_queue.specs.Union.{union, AreApart}
use Rattle.worker_queue.specs.Wheel.{events_in}
use Rattle.worker_queue.specs.Stores.{IsNext, IsNextAt}
use Rattle.worker_queue.proofs.Unions.{first_in_first, union_popped_first, apart_popped_first, absent_in_second}
use Rattle.worker_queue.proofs.stores.Stores.pop_at.Goals as goal

pub invariant_of-self : goal.invariant_of-self
invariant_of-self g c =
    let self = c.args.self.now in
    let slots = events_in g.E.Keyed.key self.wheel.slots.items in
    record {
      apart = subst (λ m. AreApart m (set_of self.late)) (sym c.pop_at.ensures.taken) (apart_popped_first slots (set_of self.late) (g.E.Keyed.key c.pop_at.result) self.apart);
      not_earlier = self.not_earlier;
    }

pub returns-in-Slot-clause-first : goal.returns-in-Slot-clause-first
returns-in-Slot-clause-first g c =
    let self = c.args.self.now in
    let event = c.pop_at.result in
    let slots = events_in g.E.Keyed.key self.wheel.slots.items in
    let next = subst (IsNextAt g.E.Keyed.key self c.args.bound) c.in-Slot.is c.requires in
    let own : IsFirst slots (g.E.Keyed.key event) event × IsNext (set_of self.late) c.args.bound (g.E.Keyed.key event) = subst (λ o. IsSomeAnd o (λ event. IsFirst slots (g.E.Keyed.key event) event × IsNext (set_of self.late) c.args.bound (g.E.Keyed.key event))) c.pop_at.ensures.here next.1 in
    first_in_first slots (set_of self.late) (g.E.Keyed.key event) event own.0 own.1.none

pub returns-in-Slot-clause-below : goal.returns-in-Slot-clause-below
returns-in-Slot-clause-below g c =
    let self = c.args.self.now in
    let event = c.pop_at.result in
    let slots = events_in g.E.Keyed.key self.wheel.slots.items in
    let next = subst (IsNextAt g.E.Keyed.key self c.args.bound) c.in-Slot.is c.requires in
    let own : IsFirst slots (g.E.Keyed.key event) event × IsNext (set_of self.late) c.args.bound (g.E.Keyed.key event) = subst (λ o. IsSomeAnd o (λ event. IsFirst slots (g.E.Keyed.key event) event × IsNext (set_of self.late) c.args.bound (g.E.Keyed.key event))) c.pop_at.ensures.here next.1 in
    own.1.below

pub returns-in-Slot-clause-taken : goal.returns-in-Slot-clause-taken
returns-in-Slot-clause-taken g c =
    let self = c.args.self.now in
    let event = c.pop_at.result in
    let slots = events_in g.E.Keyed.key self.wheel.slots.items in
    let next = subst (IsNextAt g.E.Keyed.key self c.args.bound) c.in-Slot.is c.requires in
    let own : IsFirst slots (g.E.Keyed.key event) event × IsNext (set_of self.late) c.args.bound (g.E.Keyed.key event) = subst (λ o. IsSomeAnd o (λ event. IsFirst slots (g.E.Keyed.key event) event × IsNext (set_of self.late) c.args.bound (g.E.Keyed.key event))) c.pop_at.ensures.here next.1 in
    ap (λ m. union m (set_of self.late)) c.pop_at.ensures.taken
    ∙ union_popped_first slots (set_of self.late) (g.E.Keyed.key event) (absent_in_second slots (set_of self.late) (g.E.Keyed.key event) event self.apart own.0)

use Rattle.base.specs.Order.{IsBefore}
use Rattle.worker_queue.proofs.Events.{if_none}
use Rattle.worker_queue.proofs.Turned.{none_before_nothing, none_of_all, sized_after, placed_kept, all_kept, marked_kept, first_at, told_at}
use Rattle.worker_queue.proofs.wheel.Wheel.find.Goals as goal

pub returns-in_err-slot-clause-none : goal.returns-in_err-slot-clause-none
returns-in_err-slot-clause-none g c =
    let self = c.args.self.now in
    if_none _ _ (none_before_nothing g.E.Keyed.key (λ s. s.events.items) self.slots.items self.sized self.base self.placed c.in_err-slot.ensures.none c.args.limit.now)

pub invariant_of-self : goal.invariant_of-self
invariant_of-self g c =
    let self = c.args.self.now in
    let slot = c.in_ok-slot.slot in
    let first = c.in_ok-slot.ensures.first in
    record {
      sized = sized_after g.E.Keyed.key (λ s. s.events.items) self.slots.items self.sized self.base self.placed slot c.find.new.self;
      placed = placed_kept g.E.Keyed.key (λ s. s.events.items) self.slots.items self.sized self.base self.placed slot first.below c.index_mut.result.now c.index_mut.ensures.value c.find.new.self c.find.ensures.same;
      marked = marked_kept g.E.Keyed.key (λ s. s.events.items) self.slots.items self.sized self.base self.placed slot first.below c.index_mut.result.now c.index_mut.ensures.value c.find.new.self self.marks.words self.marked c.find.ensures.same;
    }

pub returns-in_err-place-clause-same : goal.returns-in_err-place-clause-same
returns-in_err-place-clause-same g c =
    let self = c.args.self.now in
    all_kept g.E.Keyed.key (λ s. s.events.items) self.slots.items self.sized self.base self.placed c.in_ok-slot.slot c.in_ok-slot.ensures.first.below c.index_mut.result.now c.index_mut.ensures.value c.find.new.self c.find.ensures.same

pub returns-in_err-place-clause-none : goal.returns-in_err-place-clause-none
returns-in_err-place-clause-none g c =
    let self = c.args.self.now in
    if_none _ _ (
    none_of_all g.E.Keyed.key (λ s. s.events.items) self.slots.items self.sized self.base self.placed c.in_ok-slot.slot c.in_ok-slot.ensures.first.below c.index_mut.result.now c.index_mut.ensures.value c.in_ok-slot.ensures.first c.args.limit.now
    c.in_err-place.ensures.none)

pub returns-clause-same : goal.returns-clause-same
returns-clause-same g c =
    let self = c.args.self.now in
    all_kept g.E.Keyed.key (λ s. s.events.items) self.slots.items self.sized self.base self.placed c.in_ok-slot.slot c.in_ok-slot.ensures.first.below c.index_mut.result.now c.index_mut.ensures.value c.find.new.self c.find.ensures.same

pub returns-clause-first : goal.returns-clause-first
returns-clause-first g c =
    let self = c.args.self.now in
    first_at g.E.Keyed.key (λ s. s.events.items) self.slots.items self.sized self.base self.placed c.in_ok-slot.slot c.in_ok-slot.ensures.first.below c.index_mut.result.now c.index_mut.ensures.value c.find.new.self c.in_ok-place.place c.find.ensures.same
    c.in_ok-slot.ensures.first c.in_ok-place.ensures.first

pub returns-clause-before : goal.returns-clause-before
returns-clause-before g c =
    let self = c.args.self.now in
    told_at g.E.Keyed.key (λ s. s.events.items) self.slots.items self.sized self.base self.placed c.in_ok-slot.slot c.in_ok-slot.ensures.first.below c.index_mut.result.now c.index_mut.ensures.value c.find.new.self c.in_ok-place.place
    (λ event. IsBefore (g.E.Keyed.key event) c.args.limit.now) c.in_ok-place.ensures.before

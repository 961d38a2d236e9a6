use Rattle.std.proofs.Common.{◌≤◌, ap, ◌∙◌, sym, subst}
use Rattle.base.specs.declared.key.Key.{Key}
use Rattle.worker_queue.specs.Slots.{NoneIsBefore}
use Rattle.worker_queue.specs.SetOf.{set_of}
use Rattle.worker_queue.specs.Wheel.{events_in}
use Rattle.worker_queue.specs.Union.{union, AreApart}
use Rattle.worker_queue.proofs.Events.{same_least}
use Rattle.worker_queue.proofs.Unions.{first_in_second, union_popped_second, apart_popped_second, apart_in_second, no_earlier}
use Rattle.worker_queue.proofs.stores.Stores.pop_late.Goals as goal

pub rise-requires : goal.rise-requires
rise-requires g c q here =
    let event = c.in_ok-event.event in
    let k = g.E.Keyed.key event in
    let slots = events_in g.E.Keyed.key c.args.self.now.wheel.slots.items in
    let same = same_least c.args.self.now.late.events.entries c.requires.0 k event c.requires.1 c.in_ok-event.ensures.first in
    subst (λ (r : Key). r.at ≤ q.at) (sym c.key.ensures) (no_earlier slots k (subst (NoneIsBefore slots) same c.requires.2.none) q here)

pub invariant_of-self-2 : goal.invariant_of-self-2
invariant_of-self-2 g c = record {
  apart =
      subst (λ m. AreApart m (set_of c.pop_below.new.self)) (sym c.rise.ensures) (subst (AreApart (events_in g.E.Keyed.key c.args.self.now.wheel.slots.items)) (sym c.in_ok-event.ensures.taken) (apart_popped_second (events_in g.E.Keyed.key c.args.self.now.wheel.slots.items) (set_of c.args.self.now.late) (g.E.Keyed.key c.in_ok-event.event) c.args.self.now.apart));
  not_earlier = c.earliest-self.ensures;
}

pub returns-clause-first : goal.returns-clause-first
returns-clause-first g c =
    let event = c.in_ok-event.event in
    let k = g.E.Keyed.key event in
    let slots = events_in g.E.Keyed.key c.args.self.now.wheel.slots.items in
    let same = same_least c.args.self.now.late.events.entries c.requires.0 k event c.requires.1 c.in_ok-event.ensures.first in
    first_in_second slots (set_of c.args.self.now.late) k event c.args.self.now.apart c.in_ok-event.ensures.first (subst (NoneIsBefore slots) same c.requires.2.none)

pub returns-clause-taken : goal.returns-clause-taken
returns-clause-taken g c =
    ap (λ m. union m (set_of c.pop_below.new.self)) c.rise.ensures ∙ ap (union (events_in g.E.Keyed.key c.args.self.now.wheel.slots.items)) c.in_ok-event.ensures.taken
    ∙ union_popped_second (events_in g.E.Keyed.key c.args.self.now.wheel.slots.items) (set_of c.args.self.now.late) (g.E.Keyed.key c.in_ok-event.event) (apart_in_second (events_in g.E.Keyed.key c.args.self.now.wheel.slots.items) (set_of c.args.self.now.late) (g.E.Keyed.key c.in_ok-event.event) c.in_ok-event.event c.args.self.now.apart c.in_ok-event.ensures.first.here)

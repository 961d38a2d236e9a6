use Rattle.std.proofs.Common.{◌≡◌, ap, ◌∙◌, arith}
use Rattle.std.proofs.lemmas.Option.{get_or_from_slice_get}
use Rattle.base.specs.declared.key.Key.{Key}
use Rattle.worker_queue.proofs.Turned.{sized_after, within_slot, first_in_slot, told_in_slot, placed_taken, all_taken, marked_taken}
use Rattle.worker_queue.proofs.wheel.Wheel.pop_at.Goals as goal

pub index-requires : goal.index-requires
index-requires g c =
    let self = c.args.self.now in
    let old = c.index_mut-held.result.now in
    let within = within_slot g.E.Keyed.key (λ s. s.events.items) self.slots.items self.sized self.base self.placed c.args.slot c.requires.within old c.index_mut-held.ensures.value c.args.place c.requires.first in
    omega (arith, within)

pub take-requires : goal.take-requires
take-requires g c =
    let self = c.args.self.now in
    let old = c.index_mut-held.result.now in
    first_in_slot g.E.Keyed.key (λ s. s.events.items) self.slots.items self.sized self.base self.placed c.args.slot c.requires.within old c.index_mut-held.ensures.value c.args.place c.requires.first old.unlike

pub invariant_of-self : goal.invariant_of-self
invariant_of-self g c =
    let self = c.args.self.now in
    let old = c.index_mut-held.result.now in
    let event = c.take.result in
    let read : c.index.result.now ≡ event = c.index.ensures ∙ get_or_from_slice_get old.events.items c.args.place event c.index.result.now c.take.ensures.here in
    record {
      sized = sized_after g.E.Keyed.key (λ s. s.events.items) self.slots.items self.sized self.base self.placed c.args.slot c.take.new.self;
      placed =
          placed_taken g.E.Keyed.key (λ s. s.events.items) self.slots.items self.sized self.base self.placed c.args.slot c.requires.within old c.index_mut-held.ensures.value c.take.new.self c.args.place event c.take.ensures.here old.unlike c.take.ensures.taken
          c.requires.first c.ticks-self.result (c.ticks-self.ensures ∙ ap (λ (k : Key). k.at) (c.key.ensures ∙ ap g.E.Keyed.key read));
      marked =
          marked_taken g.E.Keyed.key (λ s. s.events.items) self.slots.items self.sized self.base self.placed c.args.slot c.requires.within old c.index_mut-held.ensures.value c.take.new.self c.args.place event c.take.ensures.here old.unlike c.take.ensures.taken
          c.len.result (omega (arith, c.len.ensures)) c.take.ensures.fewer self.marks.words c.clear_if.new.self.words self.marked c.clear_if.ensures.emptied c.clear_if.ensures.kept c.clear_if.ensures.others;
    }

pub returns-clause-here : goal.returns-clause-here
returns-clause-here g c =
    let self = c.args.self.now in
    let old = c.index_mut-held.result.now in
    told_in_slot g.E.Keyed.key (λ s. s.events.items) self.slots.items self.sized self.base self.placed c.args.slot c.requires.within old c.index_mut-held.ensures.value c.args.place c.take.result c.take.ensures.here

pub returns-clause-taken : goal.returns-clause-taken
returns-clause-taken g c =
    let self = c.args.self.now in
    let old = c.index_mut-held.result.now in
    all_taken g.E.Keyed.key (λ s. s.events.items) self.slots.items self.sized self.base self.placed c.args.slot c.requires.within old c.index_mut-held.ensures.value c.take.new.self c.args.place c.take.result c.take.ensures.here old.unlike c.take.ensures.taken
    c.requires.first

use Rattle.std.proofs.Common.{◌≡◌, ◌%◌, ◌<◌, ap, ◌∙◌, sym, arith}
use Rattle.base.specs.declared.key.Key.{Key}
use Rattle.worker_queue.proofs.Turned.{on_err, sized_after, new_in_slot, placed_kept, all_kept, marked_kept, placed_pushed, all_pushed, marked_pushed}
use Rattle.worker_queue.proofs.wheel.Wheel.push.Goals as goal

pub push-requires : goal.push-requires
push-requires g c =
    let self = c.args.self.now in
    let at : (g.E.Keyed.key c.args.event).at % 1024 ≡ c.slot_of-place.result = sym (c.slot_of-place.ensures ∙ ap (λ (k : Key). k.at % 1024) c.key.ensures) in
    let below : c.slot_of-place.result < 1024 = omega arith in
    new_in_slot g.E.Keyed.key (λ s. s.events.items) self.slots.items self.sized self.base self.placed c.slot_of-place.result below c.index_mut.result.now c.index_mut.ensures.value (g.E.Keyed.key c.args.event) at c.requires.new

pub invariant_of-self : goal.invariant_of-self
invariant_of-self g c =
    let self = c.args.self.now in
    let at : (g.E.Keyed.key c.args.event).at % 1024 ≡ c.slot_of-place.result = sym (c.slot_of-place.ensures ∙ ap (λ (k : Key). k.at % 1024) c.key.ensures) in
    let below : c.slot_of-place.result < 1024 = omega arith in
    record {
      sized = sized_after g.E.Keyed.key (λ s. s.events.items) self.slots.items self.sized self.base self.placed c.slot_of-place.result c.push.new.self;
      placed = placed_kept g.E.Keyed.key (λ s. s.events.items) self.slots.items self.sized self.base self.placed c.slot_of-place.result below c.index_mut.result.now c.index_mut.ensures.value c.push.new.self c.in_err-push.ensures.unchanged;
      marked = marked_kept g.E.Keyed.key (λ s. s.events.items) self.slots.items self.sized self.base self.placed c.slot_of-place.result below c.index_mut.result.now c.index_mut.ensures.value c.push.new.self self.marks.words self.marked c.in_err-push.ensures.unchanged;
    }

pub returns-in_err-push-clause-unchanged : goal.returns-in_err-push-clause-unchanged
returns-in_err-push-clause-unchanged g c =
    let self = c.args.self.now in
    let at : (g.E.Keyed.key c.args.event).at % 1024 ≡ c.slot_of-place.result = sym (c.slot_of-place.ensures ∙ ap (λ (k : Key). k.at % 1024) c.key.ensures) in
    let below : c.slot_of-place.result < 1024 = omega arith in
    on_err _ _ (all_kept g.E.Keyed.key (λ s. s.events.items) self.slots.items self.sized self.base self.placed c.slot_of-place.result below c.index_mut.result.now c.index_mut.ensures.value c.push.new.self c.in_err-push.ensures.unchanged)

pub invariant_of-self-2 : goal.invariant_of-self-2
invariant_of-self-2 g c =
    let self = c.args.self.now in
    let at : (g.E.Keyed.key c.args.event).at % 1024 ≡ c.slot_of-place.result = sym (c.slot_of-place.ensures ∙ ap (λ (k : Key). k.at % 1024) c.key.ensures) in
    let below : c.slot_of-place.result < 1024 = omega arith in
    record {
      sized = sized_after g.E.Keyed.key (λ s. s.events.items) self.slots.items self.sized self.base self.placed c.slot_of-place.result c.push.new.self;
      placed = placed_pushed g.E.Keyed.key (λ s. s.events.items) self.slots.items self.sized self.base self.placed c.slot_of-place.result below c.index_mut.result.now c.index_mut.ensures.value c.push.new.self (g.E.Keyed.key c.args.event) at c.args.event c.requires.spans c.in_ok-push.ensures.ok;
      marked =
          marked_pushed g.E.Keyed.key (λ s. s.events.items) self.slots.items self.sized self.base self.placed c.slot_of-place.result below c.index_mut.result.now c.index_mut.ensures.value c.push.new.self (g.E.Keyed.key c.args.event) at c.args.event self.marks.words c.set.new.self.words self.marked c.set.ensures.same c.set.ensures.others c.in_ok-push.ensures.ok;
    }

pub returns-clause-ok : goal.returns-clause-ok
returns-clause-ok g c =
    let self = c.args.self.now in
    let at : (g.E.Keyed.key c.args.event).at % 1024 ≡ c.slot_of-place.result = sym (c.slot_of-place.ensures ∙ ap (λ (k : Key). k.at % 1024) c.key.ensures) in
    let below : c.slot_of-place.result < 1024 = omega arith in
    all_pushed g.E.Keyed.key (λ s. s.events.items) self.slots.items self.sized self.base self.placed c.slot_of-place.result below c.index_mut.result.now c.index_mut.ensures.value c.push.new.self (g.E.Keyed.key c.args.event) at c.args.event c.requires.spans c.in_ok-push.ensures.ok

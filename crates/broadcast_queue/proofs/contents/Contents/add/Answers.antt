use Rattle.std.proofs.Common.{true, refl, sym, ◌∙◌, arith}
use Rattle.broadcast_queue.specs.Items.{is_about}
use Rattle.broadcast_queue.proofs.Steps.{added-counted, added-distinct, added-is, in_order-placed, pushed, replaced-counted, replaced-distinct, replaced-is, same_parts}
use Rattle.broadcast_queue.proofs.contents.Contents.add.Goals as goal

pub returns-in-Some-clause-added : goal.returns-in-Some-clause-added
returns-in-Some-clause-added c =
    let self = c.args.self.now in
    let sound = c.requires.sound in
    same_parts _ _ _ _ _ _ c.put_in.ensures.placed (pushed c.push.result _ _ _ c.push.ensures.items (c.push.ensures.succeeds (omega (arith, c.requires.room.for_lost)))) refl
    ∙ replaced-is true c.args.item self.items.items self.lost.items self.counter sound.ordered sound.distinct c.in-Some.lost (sym c.in-Some.ensures.lost) c.requires.without

pub returns-in-Some-clause-sound : goal.returns-in-Some-clause-sound
returns-in-Some-clause-sound c =
    let self = c.args.self.now in
    let sound = c.requires.sound in
    record {
      ordered = rw c.put_in.ensures.placed (in_order-placed c.args.item self.items.items sound.ordered);
      distinct = λ subject.
          rw (c.put_in.ensures.placed, pushed c.push.result _ _ _ c.push.ensures.items (c.push.ensures.succeeds (omega (arith, c.requires.room.for_lost))))
          (replaced-distinct true c.args.item self.items.items self.lost.items self.counter sound.ordered sound.distinct c.in-Some.lost (sym c.in-Some.ensures.lost) c.requires.without subject);
    }

pub returns-in-Some-clause-counted : goal.returns-in-Some-clause-counted
returns-in-Some-clause-counted c subject =
    let self = c.args.self.now in
    let sound = c.requires.sound in
    rw (c.put_in.ensures.placed, pushed c.push.result _ _ _ c.push.ensures.items (c.push.ensures.succeeds (omega (arith, c.requires.room.for_lost))))
    (replaced-counted true c.args.item self.items.items self.lost.items self.counter sound.ordered sound.distinct c.in-Some.lost (sym c.in-Some.ensures.lost) c.requires.without (is_about subject))

pub returns-in-Some-clause-room : goal.returns-in-Some-clause-room
returns-in-Some-clause-room c many room = record {
  for_items = omega (arith, room.for_items, c.put_in.ensures.longer, c.put_in.ensures.capacity);
  for_lost = omega (arith, room.for_lost, c.push.ensures.upper_bound, c.push.ensures.capacity);
}

pub returns-in_default-clause-added : goal.returns-in_default-clause-added
returns-in_default-clause-added c =
    let self = c.args.self.now in
    let sound = c.requires.sound in
    same_parts _ _ _ _ _ _ c.put_in.ensures.placed refl refl
    ∙ added-is true c.args.item self.items.items self.lost.items self.counter sound.ordered sound.distinct (sym (sym c.in_default.is ∙ c.put_in.ensures.lost)) c.requires.without

pub returns-in_default-clause-sound : goal.returns-in_default-clause-sound
returns-in_default-clause-sound c =
    let self = c.args.self.now in
    let sound = c.requires.sound in
    record {
      ordered = rw c.put_in.ensures.placed (in_order-placed c.args.item self.items.items sound.ordered);
      distinct = λ subject.
          rw c.put_in.ensures.placed
          (added-distinct true c.args.item self.items.items self.lost.items self.counter sound.ordered sound.distinct (sym (sym c.in_default.is ∙ c.put_in.ensures.lost)) c.requires.without subject);
    }

pub returns-in_default-clause-counted : goal.returns-in_default-clause-counted
returns-in_default-clause-counted c subject =
    let self = c.args.self.now in
    let sound = c.requires.sound in
    rw c.put_in.ensures.placed
    (added-counted true c.args.item self.items.items self.lost.items self.counter sound.ordered sound.distinct (sym (sym c.in_default.is ∙ c.put_in.ensures.lost)) c.requires.without (is_about subject))

pub returns-in_default-clause-room : goal.returns-in_default-clause-room
returns-in_default-clause-room c many room = record {
  for_items = omega (arith, room.for_items, c.put_in.ensures.longer, c.put_in.ensures.capacity);
  for_lost = omega (arith, room.for_lost);
}

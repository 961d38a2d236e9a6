use Rattle.std.proofs.Common.{true, ap, ◌∙◌, arith}
use Rattle.broadcast_queue.specs.Items.{is_about}
use Rattle.broadcast_queue.specs.Broadcasts.{counter_with}
use Rattle.broadcast_queue.proofs.Steps.{in_order-filter, lost_counted, lost_is, same_parts}
use Rattle.broadcast_queue.proofs.contents.Contents.delete_lost.Goals as goal

pub returns-clause-deleted : goal.returns-clause-deleted
returns-clause-deleted c x is =
    let self = c.args.self.now in
    let sound = c.requires.sound in
    let same = c.index.ensures in
    same_parts _ _ _ _ _ _
    (rw c.begin_anew.ensures.items c.take_out-item.ensures.others)
    (rw c.begin_anew.ensures.lost c.replace_at.ensures.items)
    (c.begin_anew.ensures.counter ∙ ap (λ l. counter_with true l self.counter) c.take_out-item.ensures.others)
    ∙ lost_is self.items.items self.lost.items c.args.place c.index.result.now x self.counter c.take_out-item.result sound.ordered sound.distinct (omega (arith, c.requires.there)) same is c.take_out-item.ensures.taken

pub returns-clause-counted : goal.returns-clause-counted
returns-clause-counted c x is subject =
    let self = c.args.self.now in
    let sound = c.requires.sound in
    rw (c.begin_anew.ensures.items, c.begin_anew.ensures.lost, c.take_out-item.ensures.others, c.replace_at.ensures.items)
    (lost_counted self.items.items self.lost.items c.args.place c.index.result.now x c.take_out-item.result sound.ordered sound.distinct (omega (arith, c.requires.there)) c.index.ensures is c.take_out-item.ensures.taken (is_about subject))

pub returns-clause-sound : goal.returns-clause-sound
returns-clause-sound c = record {
  ordered = rw (c.begin_anew.ensures.items, c.take_out-item.ensures.others) (in_order-filter _ _ c.requires.sound.ordered);
  distinct = λ subject. omega (arith, returns-clause-counted c c.index.result.now c.index.ensures subject, c.requires.sound.distinct subject);
}

pub returns-clause-room : goal.returns-clause-room
returns-clause-room c many room = rw (c.begin_anew.ensures.items, c.begin_anew.ensures.lost) (record {
  for_items = omega (arith, room.for_items, c.take_out-item.ensures.shorter, c.take_out-item.ensures.capacity);
  for_lost = omega (arith, room.for_lost, c.replace_at.ensures.shorter, c.replace_at.ensures.capacity);
})

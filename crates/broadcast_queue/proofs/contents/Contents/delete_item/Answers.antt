use Rattle.std.proofs.Common.{true, refl, ap, ◌∙◌, arith, length}
use Rattle.broadcast_queue.specs.Items.{is_about}
use Rattle.broadcast_queue.specs.Broadcasts.{counter_with}
use Rattle.broadcast_queue.proofs.Steps.{deleted-is, deleted-counted, deleted-shorter, in_order-filter, same_parts}
use Rattle.broadcast_queue.proofs.contents.Contents.delete_item.Goals as goal

pub returns-clause-deleted : goal.returns-clause-deleted
returns-clause-deleted c =
    let x = c.args.item.now in
    let self = c.args.self.now in
    same_parts _ _ _ _ _ _
    (rw c.begin_anew.ensures.items c.take_out.ensures.others)
    (rw c.begin_anew.ensures.lost refl)
    (c.begin_anew.ensures.counter ∙ ap (λ l. counter_with true l self.counter) c.take_out.ensures.others)
    ∙ deleted-is true x self.items.items self.lost.items self.counter c.requires.sound.ordered c.requires.sound.distinct c.requires.there

pub returns-clause-counted : goal.returns-clause-counted
returns-clause-counted c subject =
    let self = c.args.self.now in
    rw (c.begin_anew.ensures.items, c.begin_anew.ensures.lost, c.take_out.ensures.others)
    (deleted-counted true c.args.item.now self.items.items self.lost.items self.counter c.requires.sound.ordered c.requires.sound.distinct c.requires.there (is_about subject))

pub returns-clause-sound : goal.returns-clause-sound
returns-clause-sound c = record {
  ordered = rw (c.begin_anew.ensures.items, c.take_out.ensures.others) (in_order-filter _ _ c.requires.sound.ordered);
  distinct = λ subject. omega (arith, returns-clause-counted c subject, c.requires.sound.distinct subject);
}

pub returns-clause-shorter : goal.returns-clause-shorter
returns-clause-shorter c =
    rw c.begin_anew.ensures.items (omega (arith, ap length c.take_out.ensures.others, deleted-shorter c.args.item.now c.args.self.now.items.items c.requires.sound.ordered c.requires.there))

use Rattle.std.proofs.Common.{◌+◌, ap, ◌∙◌}
use Rattle.broadcast_queue.specs.declared.items.Item.{Item}
use Rattle.broadcast_queue.specs.Broadcasts.{Queue, after_put, with_item}
use Rattle.broadcast_queue.specs.Contents.{queue_of}
use Rattle.broadcast_queue.proofs.contents.Contents.put.Goals as goal

pub add-requires-clause-room : goal.add-requires-clause-room
add-requires-clause-room c =
    c.delete_pointed.ensures.room 1 (record { for_items = c.requires.room.for_items; for_lost = c.requires.room.for_lost })

pub returns-clause-put : goal.returns-clause-put
unfolding after_put queue_of
returns-clause-put c =
    let item : Item = record { update = c.args.update; sent = 0; size = c.args.size; id = c.args.self.now.counter + 1 } in
    c.add.ensures.added ∙ ap (λ (q : Queue). with_item item q) c.delete_pointed.ensures.deleted

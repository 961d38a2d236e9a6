use Rattle.std.proofs.Common.{ap, ◌∙◌, arith}
use Rattle.broadcast_queue.specs.Broadcasts.{Queue}
use Rattle.broadcast_queue.specs.Contents.{queue_of}
use Rattle.broadcast_queue.proofs.Steps.{sound_as}
use Rattle.broadcast_queue.proofs.BroadcastQueue.put.Goals as goal

pub invariant_of-self : goal.invariant_of-self
invariant_of-self c = sound_as _ _ c.make_room.ensures.items c.make_room.ensures.lost c.self.invariant

pub put-requires-clause-sound : goal.put-requires-clause-sound
put-requires-clause-sound c = sound_as _ _ c.make_room.ensures.items c.make_room.ensures.lost c.self.invariant

pub put-requires-clause-id : goal.put-requires-clause-id
unfolding queue_of
put-requires-clause-id c =
    let same = c.make_room.ensures.counter ∙ ap (λ (q : Queue). q.counter) c.self.view_is in
    omega (arith, same, c.requires)

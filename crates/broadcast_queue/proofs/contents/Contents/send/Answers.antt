use Rattle.broadcast_queue.proofs.Steps.{sound_as}
use Rattle.broadcast_queue.proofs.contents.Contents.send.Goals as goal

pub returns-in_err-make_room-clause-sound : goal.returns-in_err-make_room-clause-sound
returns-in_err-make_room-clause-sound c = sound_as _ _ c.make_room.ensures.items c.make_room.ensures.lost c.requires.sound

pub send_all-requires-clause-sound : goal.send_all-requires-clause-sound
send_all-requires-clause-sound c = sound_as _ _ c.make_room.ensures.items c.make_room.ensures.lost c.requires.sound

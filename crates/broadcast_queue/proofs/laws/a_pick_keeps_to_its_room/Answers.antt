use Rattle.broadcast_queue.proofs.Picks.{within_room}
use Rattle.broadcast_queue.proofs.laws.a_pick_keeps_to_its_room.Goals as goal

pub returns : goal.returns
returns c measure room items = within_room measure room items

use Rattle.std.proofs.Common.{refl, ◌∙◌}
use Rattle.broadcast_queue.proofs.Steps.{no_items, same_parts}
use Rattle.broadcast_queue.proofs.BroadcastQueue.new.Goals as goal

pub returns : goal.returns
returns c = same_parts _ _ _ _ _ _ c.new.ensures.items c.new-2.ensures.items refl ∙ no_items

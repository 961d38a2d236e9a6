use Rattle.std.proofs.Common.{◌≡◌, ◌-◌, take}
use Rattle.std.specs.List.{sum_by}
use Rattle.broadcast_queue.specs.declared.items.Measure.TheVariants.{Bytes}
use Rattle.broadcast_queue.specs.Items.{cost}
use Rattle.broadcast_queue.proofs.items.room_left.Given as goal

abbrev pub invariant-loop-item : goal.invariant-loop-item
invariant-loop-item l = l.left ≡ l.room - sum_by (cost Bytes) (take l.item-index l.picked)

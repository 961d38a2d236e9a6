use Rattle.std.proofs.Common.{◌≡◌, ◌++◌, drop}
use Rattle.broadcast_queue.specs.Items.{those_that_fit}
use Rattle.broadcast_queue.proofs.items.picked_of.Given as goal

-- with what is left to go through, they are all that fit
abbrev pub invariant-loop-item : goal.invariant-loop-item
invariant-loop-item l =
    l.picked.items ++ those_that_fit l.measure l.room (drop l.item-index l.items) ≡ those_that_fit l.measure l.fn.room l.items

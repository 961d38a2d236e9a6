-- A queue that is put to and picked from, from the beginning on.
use Rattle.std.specs.Prelude.{ℕ, Bool, List, [], ◌∷◌}
use Rattle.incarnation.specs.declared.Update.{Update}
use Rattle.broadcast_queue.specs.declared.items.Measure.{Measure}
use Rattle.broadcast_queue.specs.Items.{those_that_fit}
use Rattle.broadcast_queue.specs.Broadcasts.{Queue, new_queue, after_put, after_pick}

-- an update of some length is put, or a message has so much room
pub data Use : Type 0 where
  Put : (update : Update) (size : ℕ) → Use
  Pick : (measure : Measure) (room limit : ℕ) → Use

abbrev pub after_use : Bool → Use → Queue → Queue
after_use resets (Put update size) queue = after_put resets update size queue
after_use resets (Pick measure room limit) queue = after_pick resets (those_that_fit measure room queue.items) limit queue

-- the queue after all of them, of which the first was the latest
abbrev pub queue_after : Bool → List Use → Queue
queue_after resets [] = new_queue
queue_after resets (latest ∷ uses) = after_use resets latest (queue_after resets uses)

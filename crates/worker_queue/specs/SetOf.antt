-- What a queue in memory stands for.
use Rattle.std.specs.FinMap.{FinMap, from_entries}
use Rattle.base.specs.Order.{key_cmp}
use Rattle.worker_queue.specs.declared.tree.TreeQueue.{TreeQueue}

-- a queue's events, by their keys
abbrev pub set_of : {E : Type 0} {keyed : _} → TreeQueue E keyed → FinMap key_cmp E
set_of queue = from_entries queue.events.entries

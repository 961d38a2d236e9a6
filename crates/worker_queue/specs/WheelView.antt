-- What a wheel queue in memory stands for.
use Rattle.std.specs.FinMap.{FinMap}
use Rattle.base.specs.declared.key.Key.{Key}
use Rattle.base.specs.Order.{key_cmp}
use Rattle.worker_queue.specs.declared.wheel_queue.WheelQueue.{WheelQueue}
use Rattle.worker_queue.specs.Stores.{all_in}

-- a queue's events, by their keys
abbrev pub wheel_set_of : {E : Type 0} {keyed : _} → (E → Key) → WheelQueue E keyed → FinMap key_cmp E
wheel_set_of key queue = all_in key queue.stores

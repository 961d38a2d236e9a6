-- What a wheel of members' events stands for.
use Rattle.std.specs.FinMap.{FinMap}
use Rattle.base.specs.Order.{key_cmp}
use Rattle.member.specs.declared.event.Event.{Event}
use Rattle.worker_queue.specs.declared.wheel_queue.WheelQueue.{WheelQueue}
use Rattle.worker_queue.specs.WheelView.{wheel_set_of}

-- its events, by their keys
abbrev pub wheel_set : {keyed : _} → WheelQueue Event keyed → FinMap key_cmp Event
wheel_set wheel = wheel_set_of (λ (event : Event). event.key) wheel

-- Where the first of all events stands.
use Rattle.std.proofs.Common.{◌≡◌, ℕ, ◌<◌, Option, Some, None, IsSomeAnd, ap}
use Rattle.std.specs.Option.{is_some}
use Rattle.std.specs.FinMap.{len}
use Rattle.base.specs.declared.key.Key.{Key}
use Rattle.base.specs.Run.{IsFirst}
use Rattle.worker_queue.specs.declared.stores.Place.{Place}
use Rattle.worker_queue.specs.declared.stores.Place.TheVariants.{Slot, Late}
use Rattle.worker_queue.specs.declared.stores.Stores.{Stores}
use Rattle.worker_queue.specs.SetOf.{set_of}
use Rattle.worker_queue.specs.Wheel.{events_in, event_at}
use Rattle.worker_queue.specs.Stores.{all_in, IsNext, IsNextAt}
use Rattle.worker_queue.proofs.Unions.{from_first, from_second, some_left}

module _ {E : Type 0} {keyed : _} (key : E → Key) (stores : Stores E keyed) (bound count : ℕ) (counted : count ≡ len (all_in key stores)) where
  in_slot : (o : Option E) → IsSomeAnd o (λ event. IsFirst (events_in key stores.wheel.slots.items) (key event) event × IsNext (set_of stores.late) bound (key event)) → 0 < count
  in_slot (Some event) next = some_left (all_in key stores) (key event) count (from_first (events_in key stores.wheel.slots.items) (set_of stores.late) (key event) (ap is_some next.0.here)) counted
  in_slot None next = absurd next

  -- there is one
  pub some_at : (place : Place) → IsNextAt key stores bound place → 0 < count
  some_at (Slot slot place) next = in_slot (event_at stores.wheel.slots.items slot place) next.1
  some_at Late (k, least, next) = some_left (all_in key stores) k count (from_second (events_in key stores.wheel.slots.items) (set_of stores.late) k least.here) counted

-- What a wheel and a tree together stand for.
use Rattle.std.specs.Prelude.{ℕ, ◌<◌, IsSomeAnd}
use Rattle.std.specs.FinMap.{FinMap}
use Rattle.base.specs.declared.key.Key.{Key}
use Rattle.base.specs.Order.{key_cmp}
use Rattle.base.specs.Run.{IsFirst}
use Rattle.worker_queue.specs.declared.stores.Place.{Place}
use Rattle.worker_queue.specs.declared.stores.Place.TheVariants.{Slot, Late}
use Rattle.worker_queue.specs.declared.stores.Stores.{Stores}
use Rattle.worker_queue.specs.Queue.{IsLeastKey}
use Rattle.worker_queue.specs.Slots.{NoneIsBefore}
use Rattle.worker_queue.specs.Union.{union}
use Rattle.worker_queue.specs.SetOf.{set_of}
use Rattle.worker_queue.specs.Wheel.{events_in, event_at}

-- the events in the slots and the late ones
abbrev pub all_in : {E : Type 0} {keyed : _} → (E → Key) → Stores E keyed → FinMap key_cmp E
all_in key stores = union (events_in key stores.wheel.slots.items) (set_of stores.late)

-- the key of an event that no event of a set comes before, with a moment below the bound
pub record IsNext {C : Type 0} (others : FinMap key_cmp C) (bound : ℕ) (k : Key) : Type 0 where
  pub none : NoneIsBefore others k
  pub below : k.at < bound

-- the first of all events stands at a place, and its moment is below the bound
abbrev pub IsNextAt : {E : Type 0} {keyed : _} → (E → Key) → Stores E keyed → ℕ → Place → Type 0
IsNextAt key stores bound (Slot slot place) =
    (slot < 1024) × IsSomeAnd (event_at stores.wheel.slots.items slot place) (λ event. IsFirst (events_in key stores.wheel.slots.items) (key event) event × IsNext (set_of stores.late) bound (key event))
IsNextAt key stores bound Late = (k : Key) × IsLeastKey (set_of stores.late) k × IsNext (events_in key stores.wheel.slots.items) bound k

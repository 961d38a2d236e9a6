-- Events in slots, one for each of 1,024 moments from a base on.
use Rattle.std.specs.Prelude.{◌≡◌, ◌↔◌, ℕ, ◌+◌, ◌-◌, ◌%◌, ◌<◌, ◌≤◌, true, Option, List, [], map, slice_get, slice_index_or}
use Rattle.std.specs.List.{flat_map}
use Rattle.std.specs.FinMap.{FinMap, contains_key}
use Rattle.base.specs.declared.key.Key.{Key}
use Rattle.base.specs.Order.{key_cmp}
use Rattle.worker_queue.specs.declared.slot.Slot.{Slot}
use Rattle.worker_queue.specs.Marks.{mark_at}
use Rattle.worker_queue.specs.Slots.{by_key}

-- what stands in each slot
abbrev pub lists_of : {E : Type 0} {keyed : _} → List (Slot E keyed) → List (List E)
lists_of slots = map (λ s. s.events.items) slots

-- what stands in one
abbrev pub slot_at : {E : Type 0} → List (List E) → ℕ → List E
slot_at lists place = slice_index_or lists place []

-- the event at a place of one
abbrev pub event_at : {E : Type 0} {keyed : _} → List (Slot E keyed) → ℕ → ℕ → Option E
event_at slots slot place = slice_get (slot_at (lists_of slots) slot) place

-- the events of all lists, by their keys
abbrev pub all_by_key : {E : Type 0} → (E → Key) → List (List E) → FinMap key_cmp E
all_by_key key lists = by_key key (flat_map (λ events. events) lists)

-- the events of all slots, by their keys
abbrev pub events_in : {E : Type 0} {keyed : _} → (E → Key) → List (Slot E keyed) → FinMap key_cmp E
events_in key slots = all_by_key key (lists_of slots)

-- a moment that has a slot
pub record Spans (base at : ℕ) : Type 0 where
  pub from : base ≤ at
  pub before : at < base + 1024

-- each event stands in the slot of its moment
abbrev pub ArePlaced : {E : Type 0} → (E → Key) → ℕ → List (List E) → Type 0
ArePlaced key base lists = (place : ℕ) → place < 1024 → (q : Key) → contains_key (by_key key (slot_at lists place)) q ≡ true → Spans base q.at × (q.at % 1024 ≡ place)

-- the slots that have events are marked
abbrev pub AreMarked : {E : Type 0} → List ℕ → List (List E) → Type 0
AreMarked words lists = (place : ℕ) → place < 1024 → (mark_at words place ≡ 0) ↔ (slot_at lists place ≡ [])

-- how many moments after the base that of a place is
abbrev pub turns : ℕ → ℕ → ℕ
turns base place = ((place + 1024) - base % 1024) % 1024

-- of the places that have events, the one with the earliest moment
pub record IsFirstPlace {E : Type 0} (base : ℕ) (lists : List (List E)) (place : ℕ) : Type 0 where
  pub below : place < 1024
  pub some : ¬ (slot_at lists place ≡ [])
  pub first : (other : ℕ) → other < 1024 → ¬ (slot_at lists other ≡ []) → turns base place ≤ turns base other

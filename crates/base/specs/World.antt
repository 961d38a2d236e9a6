-- A cluster of any deterministic machine: its members' states and its pending events, and its next step.
use Rattle.std.specs.Prelude.{◌≡◌, ℕ, ◌<◌, ◌≤◌, true, List, [], ◌∷◌, ◌++◌, Option, Some, None}
use Rattle.std.specs.Option.{option_map}
use Rattle.std.specs.Ordering.{nat_cmp}
use Rattle.std.specs.FinMap.{FinMap, get, contains_key, insert, remove}
use Rattle.base.specs.declared.key.Key.{Key}
use Rattle.base.specs.Order.{key_cmp, IsBefore}

-- what a member makes of an event: its state after it, the events that it makes and the rows that it writes
pub record Outcome (S C R : Type 0) : Type 0 where
  pub state : S
  pub events : List (Key × C)
  pub rows : List R

-- what any member makes of an event with this key and content in this state
abbrev pub Machine : Type 0 → Type 0 → Type 0 → Type 0
Machine S C R = Key → C → S → Outcome S C R

-- the members' states by their numbers, and the contents of the events that are pending by their keys
pub record World (S C : Type 0) : Type 0 where
  pub members : FinMap nat_cmp S
  pub pending : FinMap key_cmp C

abbrev pub IsPending : {S C : Type 0} → World S C → Key → Type 0
IsPending w k = contains_key w.pending k ≡ true

-- these events pend too
abbrev pub with_events : {C : Type 0} → FinMap key_cmp C → List (Key × C) → FinMap key_cmp C
with_events pending [] = pending
with_events pending (e ∷ es) = with_events (insert pending e.0 e.1) es

-- what is left when the receiver has handled the event: an event for nobody is dropped
abbrev pub settled : {S C R : Type 0} → World S C → Key → Option (Outcome S C R) → World S C
settled w k None = record { members = w.members; pending = remove w.pending k }
settled w k (Some o) = record { members = insert w.members k.to o.state; pending = with_events (remove w.pending k) o.events }

abbrev pub rows_of : {S C R : Type 0} → Option (Outcome S C R) → List R
rows_of None = []
rows_of (Some o) = o.rows

-- no event is left up to the end
abbrev pub IsOver : {S C : Type 0} → ℕ → World S C → Type 0
IsOver end w = (q : Key) → IsPending w q → end < q.at

abbrev pub events_of : {S C R : Type 0} → Option (Outcome S C R) → List (Key × C)
events_of None = []
events_of (Some o) = o.events

module _ {S C R : Type 0} (step : Machine S C R) where
  -- what the receiver makes of the event
  abbrev pub outcome : World S C → Key → C → Option (Outcome S C R)
  outcome w k c = option_map (step k c) (get w.members k.to)

  -- The event that is handled next is the pending one of which no other has a smaller key. Its receiver
  -- steps, all other members stay, and the pending events lose it and gain those that the step makes.
  pub record NextStep (w : World S C) (k : Key) (v : World S C) (rows : List R) : Type 0 where
    pub content : C
    pub here : get w.pending k ≡ Some content
    pub least : (q : Key) → IsPending w q → ¬ (IsBefore q k)
    pub world : v ≡ settled w k (outcome w k content)
    pub made : rows ≡ rows_of (outcome w k content)

  -- next step after next step, none later than the end, by the keys of the events handled; with all rows
  abbrev pub Run : ℕ → World S C → List Key → List R → World S C → Type 0
  Run end w [] rows v = (v ≡ w) × (rows ≡ [])
  Run end w (k ∷ ks) rows v =
      (mid : World S C) × (made : List R) × (more : List R) × (k.at ≤ end) × NextStep w k mid made × Run end mid ks more v × (rows ≡ made ++ more)

  -- The run with one set of pending events, whose least is always the next, up to the end moment.
  pub record SequentialRun (end : ℕ) (w : World S C) (keys : List Key) (rows : List R) : Type 0 where
    pub last : World S C
    pub run : Run end w keys rows last
    pub over : IsOver end last

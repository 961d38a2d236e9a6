-- Runs in which any event that passes a test may be the next.
use Rattle.std.specs.Prelude.{◌≡◌, ◌≢◌, ℕ, ◌<◌, ◌≤◌, nat_eq, List, [], ◌∷◌, ◌++◌, Some}
use Rattle.std.specs.List.{AllByRecursion, filter}
use Rattle.std.specs.FinMap.{get}
use Rattle.base.specs.declared.key.Key.{Key}
use Rattle.base.specs.World.{Machine, World, settled, rows_of, events_of, outcome, NextStep, Run}
use Rattle.windows.specs.Safe.{IsFirstOf}

module _ {S C R : Type 0} (step : Machine S C R) where
  -- what NextStep does, with a test of the event in place of "no pending event has a smaller key"
  pub record TestedStep (Test : World S C → Key → Type 0) (w : World S C) (k : Key) (v : World S C) (rows : List R) : Type 0 where
    pub content : C
    pub here : get w.pending k ≡ Some content
    pub passes : Test w k
    pub world : v ≡ settled w k (outcome step w k content)
    pub made : rows ≡ rows_of (outcome step w k content)

  -- a list of such steps, by the keys of the events handled; with all rows
  abbrev pub Schedule : (World S C → Key → Type 0) → World S C → List Key → List R → World S C → Type 0
  Schedule Test w [] rows v = (v ≡ w) × (rows ≡ [])
  Schedule Test w (k ∷ ks) rows v =
      (mid : World S C) × (made : List R) × (more : List R) × TestedStep Test w k mid made × Schedule Test mid ks more v × (rows ≡ made ++ more)

  -- What a test offers, so that an event that passes it may be handled before its turn: it is the least pending
  -- event of its receiver, no later than the end; and while the least of all is another, that one's step leaves
  -- it so, and makes no event for its receiver that is not later.
  pub record OffersEarly (end : ℕ) (Test : World S C → Key → Type 0) : Type 0 where
    pub first : (w : World S C) (k : Key) → Test w k → IsFirstOf w k
    pub in_time : (w : World S C) (k : Key) → Test w k → k.at ≤ end
    pub stays : (w v : World S C) (k q : Key) (made : List R) → Test w k → NextStep step w q v made → q ≢ k → Test v k
    pub untouched : (w v : World S C) (k q : Key) (made : List R) → Test w k → (next : NextStep step w q v made) → q ≢ k
        → AllByRecursion (λ e. e.0.to ≡ k.to → k.at < e.0.at) (events_of (outcome step w q next.content))

  -- The run from w handles first events for other members, then k. That leads to the world to which the same
  -- events, with the same rows, lead from v.
  pub record CatchesUp (end : ℕ) (w v : World S C) (k : Key) (made : List R) : Type 0 where
    pub before : List Key
    pub front : List R
    pub there : World S C
    pub after : World S C
    pub until : Run step end w before front there
    pub turn : NextStep step there k after made
    pub alike : Run step end v before front after
    pub others : AllByRecursion (λ q. q.to ≢ k.to) before

  -- the run from this world comes to a world in which the member has this state
  pub record MeetsState (end : ℕ) (w : World S C) (m : ℕ) (state : S) : Type 0 where
    pub keys : List Key
    pub rows : List R
    pub world : World S C
    pub run : Run step end w keys rows world
    pub there : get world.members m ≡ Some state

-- each row that a step writes is its receiver's
abbrev pub TellsWhose : {S C R : Type 0} → (R → ℕ) → Machine S C R → Type 0
TellsWhose {S} {C} whose step = (k : Key) (c : C) (s : S) → AllByRecursion (λ row. whose row ≡ k.to) (step k c s).rows

-- the rows of one member
abbrev pub rows_by : {R : Type 0} → (R → ℕ) → ℕ → List R → List R
rows_by whose m rows = filter (λ row. nat_eq (whose row) m) rows

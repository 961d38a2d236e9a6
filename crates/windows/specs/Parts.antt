-- Parts of a world, their windows, and what is on its way between them.
use Rattle.std.specs.Prelude.{◌≡◌, ◌≢◌, ◌⊎◌, ℕ, ◌+◌, ◌<◌, ◌≤◌, Bool, not, nat_eq, List, [], ◌∷◌, ◌++◌, Option, Some}
use Rattle.std.specs.Option.{option_map, IfSome}
use Rattle.std.specs.List.{AllByRecursion, filter, flat_map}
use Rattle.std.specs.FinMap.{get, retain_keys}
use Rattle.base.specs.declared.key.Key.{Key}
use Rattle.base.specs.Order.{IsBefore}
use Rattle.base.specs.Rising.{IsRising}
use Rattle.base.specs.World.{Outcome, Machine, World, IsPending, with_events, settled, rows_of, events_of, outcome}
use Rattle.windows.specs.Safe.{IsFirstOfPart}

-- the part of a world that some of its members are: their states and the pending events for them
abbrev pub part_of : {S C : Type 0} → (ℕ → Bool) → World S C → World S C
part_of owns w = record { members = retain_keys w.members owns; pending = retain_keys w.pending (λ k. owns k.to) }

-- the events for them, and those for others
abbrev pub for_own : {C : Type 0} → (ℕ → Bool) → List (Key × C) → List (Key × C)
for_own owns es = filter (λ e. owns e.0.to) es

abbrev pub for_others : {C : Type 0} → (ℕ → Bool) → List (Key × C) → List (Key × C)
for_others owns es = filter (λ e. not (owns e.0.to)) es

-- a part that these events have come to
abbrev pub with_arrivals : {S C : Type 0} → World S C → List (Key × C) → World S C
with_arrivals p es = record { members = p.members; pending = with_events p.pending es }

-- what stays in the part of what a member makes of an event
abbrev pub kept_by : {S C R : Type 0} → (ℕ → Bool) → Outcome S C R → Outcome S C R
kept_by owns o = record { state = o.state; events = for_own owns o.events; rows = o.rows }

module _ {S C R : Type 0} (step : Machine S C R) (owns : ℕ → Bool) (bound : ℕ) where
  -- The part's least event, before the bound, is handled as in any world. Of the events made those for its own
  -- members pend in the part, the others go out.
  pub record PartStep (p : World S C) (k : Key) (out : List (Key × C)) (rows : List R) (v : World S C) : Type 0 where
    pub content : C
    pub here : get p.pending k ≡ Some content
    pub least : (q : Key) → IsPending p q → ¬ (IsBefore q k)
    pub early : k.at < bound
    pub world : v ≡ settled p k (option_map (kept_by owns) (outcome step p k content))
    pub sent : out ≡ for_others owns (events_of (outcome step p k content))
    pub made : rows ≡ rows_of (outcome step p k content)

  -- such steps one after the other
  abbrev pub PartRun : World S C → List Key → List (Key × C) → List R → World S C → Type 0
  PartRun p [] out rows v = (v ≡ p) × (out ≡ []) × (rows ≡ [])
  PartRun p (k ∷ ks) out rows v =
      (mid : World S C) × (sent : List (Key × C)) × (more_sent : List (Key × C)) × (made : List R) × (more : List R)
      × PartStep p k sent made mid × PartRun mid ks more_sent more v × (out ≡ sent ++ more_sent) × (rows ≡ made ++ more)

  -- The window of a part below a bound: such steps, after which nothing is left below the bound.
  pub record PartWindow (p : World S C) (keys : List Key) (out : List (Key × C)) (rows : List R) (after : World S C) : Type 0 where
    pub run : PartRun p keys out rows after
    pub done : (q : Key) → IsPending after q → bound ≤ q.at

-- A division numbers the part of each member.
abbrev pub is_in : (ℕ → ℕ) → ℕ → ℕ → Bool
is_in division part m = nat_eq (division m) part

-- a part's number and its window: the keys handled, the events that went out, the rows, and the part after it
pub record Window (S C R : Type 0) : Type 0 where
  pub part : ℕ
  pub keys : List Key
  pub out : List (Key × C)
  pub rows : List R
  pub after : World S C

-- this is the window of the part that it names, below that part's bound
abbrev pub IsWindowOfItsPart : {S C R : Type 0} → Machine S C R → (ℕ → ℕ) → (ℕ → ℕ) → World S C → Window S C R → Type 0
IsWindowOfItsPart step division bounds w d = PartWindow step (is_in division d.part) (bounds d.part) (part_of (is_in division d.part) w) d.keys d.out d.rows d.after

-- A common bound: no more than the end and one, nor than the least pending moment and the least delay.
pub record IsCommonBound {S C : Type 0} (end : ℕ) (least_delay : Option ℕ) (w : World S C) (bound : ℕ) : Type 0 where
  pub in_time : bound ≤ end + 1
  pub near : IfSome least_delay (λ d. (q : Key) → IsPending w q → bound ≤ q.at + d)

-- one of these windows is the part's
abbrev pub IncludesPart : {S C R : Type 0} → List (Window S C R) → ℕ → Type 0
IncludesPart [] part = ⊥
IncludesPart (d ∷ ds) part = (d.part ≡ part) ⊎ IncludesPart ds part

-- all keys, events that went out and rows of these windows
abbrev pub all_keys : {S C R : Type 0} → List (Window S C R) → List Key
all_keys = flat_map (λ d. d.keys)

abbrev pub all_out : {S C R : Type 0} → List (Window S C R) → List (Key × C)
all_out = flat_map (λ d. d.out)

abbrev pub all_rows : {S C R : Type 0} → List (Window S C R) → List R
all_rows = flat_map (λ d. d.rows)

-- Windows of different parts of a world, each below its part's bound.
pub record AreWindowsOfDifferentParts {S C R : Type 0} (step : Machine S C R) (division : ℕ → ℕ) (bounds : ℕ → ℕ) (w : World S C) (ds : List (Window S C R)) : Type 0 where
  pub windows : AllByRecursion (IsWindowOfItsPart step division bounds w) ds
  pub different : IsRising (λ d e. d.part ≢ e.part) ds

-- The world that stands after them: each part is as its window leaves it, or as it was if it has none, and the events
-- that went out have come to their parts.
pub record StandsAfter {S C R : Type 0} (division : ℕ → ℕ) (w : World S C) (ds : List (Window S C R)) (v : World S C) : Type 0 where
  pub parts : AllByRecursion (λ d. part_of (is_in division d.part) v ≡ with_arrivals d.after (for_own (is_in division d.part) (all_out ds))) ds
  pub others : (part : ℕ) → ¬ (IncludesPart ds part) → part_of (is_in division part) v ≡ with_arrivals (part_of (is_in division part) w) (for_own (is_in division part) (all_out ds))

-- a world of which this holds, and in which the windows below the bound may run
abbrev pub IsReady : {S C : Type 0} → ℕ → Option ℕ → (World S C → Type 0) → ℕ → World S C → Type 0
IsReady end least_delay Fact bound w = Fact w × IsCommonBound end least_delay w bound

-- What a test and the bounds of the parts offer, so that each part may run up to its bound by itself. In a world that is
-- ready, the least event of a part passes the test where it is before the part's bound. Its step leaves the world ready,
-- and makes nothing for another part before that part's bound.
pub record OffersWindows {S C R : Type 0} (division bounds : ℕ → ℕ) (Test : World S C → Key → Type 0) (Ready : World S C → Type 0) (step : Machine S C R) : Type 0 where
  pub passes : (w : World S C) (k : Key) → Ready w → IsFirstOfPart division w k → k.at < bounds (division k.to) → Test w k
  pub stays : (w : World S C) (k : Key) (c : C) → Ready w → Test w k → get w.pending k ≡ Some c → Ready (settled w k (outcome step w k c))
  pub far : (w : World S C) (k : Key) (c : C) → Ready w → Test w k → get w.pending k ≡ Some c
      → AllByRecursion (λ e. division e.0.to ≢ division k.to → bounds (division e.0.to) ≤ e.0.at) (events_of (outcome step w k c))

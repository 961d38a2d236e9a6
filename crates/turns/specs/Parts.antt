-- A cluster that is divided into parts, and what the windows of all parts make of it.
use Rattle.std.specs.Prelude.{◌≡◌, ◌↔◌, ℕ, ◌+◌, ◌<◌, ◌≤◌, Bool, true, not, nat_lt, List, [], ◌∷◌, ◌++◌, map, length, Option, Some, None}
use Rattle.std.specs.List.{AllByRecursion, slice_get, flat_map, filter}
use Rattle.std.specs.List.Sorted.{IsPermutation, IsSorted}
use Rattle.std.specs.Option.{option_map}
use Rattle.std.specs.FinMap.{FinMap, empty}
use Rattle.std.specs.declared.cmp.Ordering.{Ordering}
use Rattle.base.specs.declared.key.Key.{Key}
use Rattle.base.specs.Order.{key_cmp}
use Rattle.base.specs.Rising.{IsRising, IsPlaceBefore}
use Rattle.scenario.specs.Setup.{Setup, IsSound, member_count}
use Rattle.scenario.specs.Division.{Deal}
use Rattle.trace.specs.declared.row.Row.{Row}
use Rattle.worker_queue.specs.Queue.{NoneIsBelow}
use Rattle.member.specs.declared.event_kind.EventKind.{EventKind}
use Rattle.member.specs.declared.event.Event.{Event}
use Rattle.member.specs.Places.{place_of}
use Rattle.member.specs.StateOf.{pair_of}
use Rattle.member_laws.specs.Runs.{Cluster}
use Rattle.windows.specs.declared.bounded.Bounded.{Bounded}
use Rattle.windows.specs.declared.part.Part.{Part}
use Rattle.windows.specs.declared.part.Done.{Done}
use Rattle.windows.specs.Parts.{part_of, is_in, for_own, with_arrivals}
use Rattle.windows.specs.Cluster.{IsPeopled, LiesBetween, IsRowOrder, IsWholeCluster}
use Rattle.windows.specs.Horizon.{AreHorizons}
use Rattle.windows.specs.WorldOf.{world_of}
use Rattle.windows.specs.Window.{is_own}
use Rattle.windows.specs.Several.{RanWindows, parts_of, numbers_of}
use Rattle.lookahead.specs.Between.{part_number}

-- a cluster of nobody, in which nothing pends
abbrev pub nobody : Cluster
nobody = record { members = empty; pending = empty }

-- no later than that moment, where there is one
abbrev pub IsUpTo : Option ℕ → ℕ → Type 0
IsUpTo None t = Unit {0}
IsUpTo (Some at) t = t ≤ at

-- a row that comes before that moment, where there is one
abbrev pub is_before : Option ℕ → Row → Bool
is_before None row = true
is_before (Some t) row = nat_lt row.at t

-- the same rows, sorted by an order that agrees with the trace's
abbrev pub IsInRowOrder : List Row → List Row → Type 0
IsInRowOrder made sorted = (cmp : Row → Row → Ordering) × IsRowOrder cmp × IsPermutation made sorted × IsSorted cmp sorted

-- the rows of each of these windows stand in the order of their places, and no two of them have one place
abbrev pub RowsRise : {Q : Type 0} → List (Done Q) → Type 0
RowsRise {Q} done = AllByRecursion (λ (d : Done Q). IsRising IsPlaceBefore (map place_of d.rows.items)) done

-- these are the numbers from this one on, each once, in their order
abbrev pub CountFrom : ℕ → List ℕ → Type 0
CountFrom n [] = Unit {0}
CountFrom n (m ∷ ms) = (m ≡ n) × CountFrom (n + 1) ms

module _ {Q : Type 0} (set : Q → FinMap key_cmp Event) where
  -- nothing pends in these parts before the moment
  abbrev pub NonePendsBefore : List (Part Q) → ℕ → Type 0
  NonePendsBefore parts t = AllByRecursion (λ (p : Part Q). NoneIsBelow (world_of set p).pending t) parts

  -- the least moment that pends in these parts: just before moments up to it nothing pends
  abbrev pub IsLeastMoment : List (Part Q) → Option ℕ → Type 0
  IsLeastMoment parts least = (t : ℕ) → NonePendsBefore parts t ↔ IsUpTo least t

  -- The parts stand for this world: each, at the place of its number, for its part of it; their numbers count from 0.
  pub record StandFor (deal : Deal) (parts : List (Part Q)) (w : Cluster) : Type 0 where
    pub count : length parts ≡ deal.parts
    pub worlds : (i : ℕ) → i < deal.parts → option_map (world_of set) (slice_get parts i) ≡ Some (part_of (is_in (part_number deal) i) w)
    pub numbered : CountFrom 0 (numbers_of parts)

  -- each part has the members that are divided to it
  abbrev pub HaveTheirMembers : Deal → List (Part Q) → Type 0
  HaveTheirMembers deal parts = (i : ℕ) (p : Part Q) → slice_get parts i ≡ Some p → (m : ℕ) → m < length deal.part_of → part_number deal m ≡ i → is_own (world_of set p) m ≡ true

  -- by some lengths that lie between the parts, the bounds of these are horizons of the world
  pub record HaveHorizons (s : Setup) (deal : Deal) (bounded : List (Bounded Q)) (w : Cluster) : Type 0 where
    pub between : ℕ → ℕ → ℕ
    pub lies : LiesBetween s (part_number deal) between
    pub bounds : ℕ → ℕ
    pub are : AreHorizons s.end (part_number deal) (IsPeopled s (part_number deal)) between bounds w
    pub each : (i : ℕ) (b : Bounded Q) → slice_get bounded i ≡ Some b → bounds i ≡ b.bound

  -- the parts stand for a world of all members, in which their windows may run
  pub record MayTurn (s : Setup) (deal : Deal) (bounded : List (Bounded Q)) : Type 0 where
    pub world : Cluster
    pub stand : StandFor deal (parts_of bounded) world
    pub whole : IsWholeCluster s world
    pub horizons : HaveHorizons s deal bounded world

  -- These are the parts with bounds past a moment and no later than the one after the end, which are horizons of
  -- whatever world of all members the parts stand for.
  pub record AreBounded (s : Setup) (deal : Deal) (parts : List (Part Q)) (first : ℕ) (bounded : List (Bounded Q)) : Type 0 where
    pub same : parts_of bounded ≡ parts
    pub in_time : AllByRecursion (λ (b : Bounded Q). b.bound ≤ s.end + 1) bounded
    pub past : AllByRecursion (λ (b : Bounded Q). first < b.bound) bounded
    pub horizons : (w : Cluster) → StandFor deal parts w → IsWholeCluster s w → HaveHorizons s deal bounded w

  -- these events have come to the parts of their receivers, which keep their numbers
  pub record HaveCome (division : ℕ → ℕ) (before after : List (Part Q)) (events : List (Key × EventKind)) : Type 0 where
    pub count : length after ≡ length before
    pub worlds : (i : ℕ) → option_map (world_of set) (slice_get after i) ≡ option_map (λ p. with_arrivals (world_of set p) (for_own (is_in division i) events)) (slice_get before i)
    pub numbers : numbers_of after ≡ numbers_of before

  -- This is what the windows of all parts gave, somewhere in a run.
  pub record Came (deal : Deal) (done : List (Done Q)) : Type 0 where
    pub setup : Setup
    pub sound : IsSound setup
    pub divides : length deal.part_of ≡ member_count setup
    pub before : List (Bounded Q)
    pub ready : MayTurn setup deal before
    pub windows : RanWindows set setup before done

  -- The events that went out of these windows have come to their parts. Of the rows that were kept and those of all
  -- windows, in row order, the ones before all that pends are released, and the others kept.
  pub record HaveExchanged (deal : Deal) (done : List (Done Q)) (kept : List Row) (after : List (Part Q)) (released still_kept : List Row) : Type 0 where
    pub come : HaveCome (part_number deal) (map (λ d. d.part) done) after (map pair_of (flat_map (λ d. d.out.items) done))
    pub sorted : List Row
    pub order : IsInRowOrder (kept ++ flat_map (λ d. d.rows.items) done) sorted
    pub least : Option ℕ
    pub first : IsLeastMoment after least
    pub released_are : released ≡ filter (is_before least) sorted
    pub kept_are : still_kept ≡ filter (λ row. not (is_before least row)) sorted

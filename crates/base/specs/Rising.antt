-- The order of what a run handles and writes, and that no event made takes the place of another.
use Rattle.std.specs.Prelude.{◌≡◌, ◌≢◌, ◌⊎◌, ℕ, ◌<◌, ◌≤◌, false, List, [], ◌∷◌, map, length, Some}
use Rattle.std.specs.List.{AllByRecursion, range_with_len}
use Rattle.std.specs.FinMap.{FinMap, get, contains_key}
use Rattle.base.specs.declared.key.Key.{Key}
use Rattle.base.specs.Order.{key_cmp, IsBefore}
use Rattle.base.specs.World.{Machine, World, IsPending}

-- each item is before all that follow it
abbrev pub IsRising : {A : Type 0} → (A → A → Type 0) → List A → Type 0
IsRising before [] = Unit {0}
IsRising before (x ∷ xs) = AllByRecursion (before x) xs × IsRising before xs

-- a row's place: the key of the event that wrote it, and how many rows that event wrote before it
abbrev pub IsPlaceBefore : Key × ℕ → Key × ℕ → Type 0
IsPlaceBefore a b = IsBefore a.0 b.0 ⊎ ((a.0 ≡ b.0) × (a.1 < b.1))

-- the rows of an event carry its key, and are counted from 0
abbrev pub CountsRows : {S C R : Type 0} → (R → Key × ℕ) → Machine S C R → Type 0
CountsRows {S} {C} place step = (k : Key) (c : C) (s : S) → map place (step k c s).rows ≡ map (λ i. (k, i)) (range_with_len 0 (length (step k c s).rows))

-- A member uses each number once: the events that a step makes are the receiver's, and have numbers from
-- its next one on, which rise.
pub record UsesNumbers {S C R : Type 0} (next : S → ℕ) (step : Machine S C R) : Type 0 where
  pub made : (k : Key) (c : C) (s : S) → AllByRecursion (λ e. (e.0.from ≡ k.to) × (next s ≤ e.0.number) × (e.0.number < next (step k c s).state)) (step k c s).events
  pub apart : (k : Key) (c : C) (s : S) → IsRising (λ e f. e.0.number < f.0.number) (step k c s).events
  pub grows : (k : Key) (c : C) (s : S) → next s ≤ next (step k c s).state

-- each pending event has a number that its sender has used
abbrev pub IsNumbered : {S C : Type 0} → (S → ℕ) → World S C → Type 0
IsNumbered {S} next w = (q : Key) → IsPending w q → (s : S) × (get w.members q.from ≡ Some s) × (q.number < next s)

-- none of these events has the key of a pending one, and no two of them have one key
pub record AreNew {C : Type 0} (pending : FinMap key_cmp C) (events : List (Key × C)) : Type 0 where
  pub unlike_pending : AllByRecursion (λ e. contains_key pending e.0 ≡ false) events
  pub unlike_each_other : IsRising (λ e f. e.0 ≢ f.0) events

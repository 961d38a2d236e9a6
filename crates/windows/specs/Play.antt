-- Runs in which members are chosen one after the other, each to handle its next event where that is safe.
use Rattle.std.specs.Prelude.{◌≡◌, ◌⊎◌, ℕ, ◌+◌, ◌≤◌, List, [], ◌∷◌, ◌++◌, length, Option, Some, None}
use Rattle.std.specs.List.Sorted.{IsPermutation}
use Rattle.base.specs.declared.key.Key.{Key}
use Rattle.base.specs.World.{Machine, World, IsPending, IsOver}
use Rattle.scenario.specs.Setup.{Setup}
use Rattle.trace.specs.declared.row.Row.{Row}
use Rattle.member.specs.Opening.{opening}
use Rattle.member.specs.Step.{step}
use Rattle.member_laws.specs.Runs.{Cluster}
use Rattle.windows.specs.Safe.{IsSafe}
use Rattle.windows.specs.Schedule.{TestedStep}
use Rattle.windows.specs.Cluster.{IsLeastDelay}
use Rattle.windows.specs.declared.choices.Played.{Played}

-- no event for this member passes the test
abbrev pub NonePasses : {S C : Type 0} → (World S C → Key → Type 0) → World S C → ℕ → Type 0
NonePasses Test w m = (k : Key) → k.to ≡ m → ¬ (Test w k)

module _ {S C R : Type 0} (step : Machine S C R) (Test : World S C → Key → Type 0) where
  -- A member is chosen. An event for it that passes the test is handled; where none does, nothing changes.
  abbrev pub Chooses : World S C → ℕ → List Key → List R → World S C → Type 0
  Chooses w m keys rows v =
      ((k : Key) × (k.to ≡ m) × TestedStep step Test w k v rows × (keys ≡ k ∷ [])) ⊎ (NonePasses Test w m × (v ≡ w) × (keys ≡ []) × (rows ≡ []))

  -- members are chosen one after the other, by the keys of the events handled; with all rows
  abbrev pub ChoosesAll : World S C → List ℕ → List Key → List R → World S C → Type 0
  ChoosesAll w [] keys rows v = (v ≡ w) × (keys ≡ []) × (rows ≡ [])
  ChoosesAll w (m ∷ ms) keys rows v =
      (mid : World S C) × (first : List Key) × (others : List Key) × (made : List R) × (more : List R)
      × Chooses w m first made mid × ChoosesAll mid ms others more v × (keys ≡ first ++ others) × (rows ≡ made ++ more)

-- members of the cluster are chosen, each to handle its next event if that is safe
abbrev pub Plays : Setup → Option ℕ → Cluster → List ℕ → List Key → List Row → Cluster → Type 0
Plays s least_delay = ChoosesAll (step s) (IsSafe s.end least_delay)

-- the least moment of what pends up to the end: none where nothing does
abbrev pub IsLeastLeft : {S C : Type 0} → ℕ → World S C → Option ℕ → Type 0
IsLeastLeft end w None = IsOver end w
IsLeastLeft end w (Some at) = (at ≤ end) × ((k : Key) × IsPending w k × (k.at ≡ at)) × ((q : Key) → IsPending w q → at ≤ q.at)

-- What these choices come to from the beginning of the scenario: the rows of the steps are these, in some order; each
-- choice handled one event or was skipped, and that moment is the least left.
pub record IsPlayOf (s : Setup) (choices : List ℕ) (played : Played) : Type 0 where
  pub least_delay : Option ℕ
  pub least : IsLeastDelay s least_delay
  pub keys : List Key
  pub made : List Row
  pub world : Cluster
  pub plays : Plays s least_delay (opening s) choices keys made world
  pub rows : IsPermutation made played.rows.items
  pub handled : played.handled ≡ length keys
  pub skipped : played.handled + played.skipped ≡ length choices
  pub left : IsLeastLeft s.end world played.left

-- the one list is a beginning of the other
abbrev pub IsBeginning : {A : Type 0} → List A → List A → Type 0
IsBeginning {A} xs all = (rest : List A) × (all ≡ xs ++ rest)

-- The first of the events that pend whose members have none that waits.
use Rattle.std.specs.Prelude.{◌≡◌, ℕ, ◌<◌, Bool, true, false, not, ◌&&◌, nat_eq, List, [], ◌∷◌}
use Rattle.std.specs.List.{list_any}
use Rattle.std.specs.FinMap.{FinMap, contains_key}
use Rattle.base.specs.declared.key.Key.{Key}
use Rattle.base.specs.Order.{key_cmp, IsBefore}
use Rattle.drive_events.specs.declared.content.Content.{Content}

-- one of these keys is for this member
abbrev pub has_one_for : ℕ → List Key → Bool
has_one_for m keys = list_any (λ (q : Key). nat_eq q.to m) keys

-- no two of them are for one
abbrev pub are_of_different : List Key → Bool
are_of_different [] = true
are_of_different (k ∷ ks) = not (has_one_for k.to ks) && are_of_different ks

-- an event pends before the bound, and none for its member waits
pub record IsFreeBelow (bound : ℕ) (events : FinMap key_cmp Content) (waiting : List Key) (k : Key) : Type 0 where
  pub here : contains_key events k ≡ true
  pub below : k.at < bound
  pub free : has_one_for k.to waiting ≡ false

-- and no such event comes before it
pub record IsFirstFree (bound : ℕ) (events : FinMap key_cmp Content) (waiting : List Key) (k : Key) : Type 0 where
  pub is : IsFreeBelow bound events waiting k
  pub least : (q : Key) → IsFreeBelow bound events waiting q → ¬ (IsBefore q k)

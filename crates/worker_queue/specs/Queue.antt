-- Sets of events: which is the least, and what lies below a moment.
use Rattle.std.specs.Prelude.{◌≡◌, ℕ, ◌≤◌, true}
use Rattle.std.specs.FinMap.{FinMap, contains_key}
use Rattle.base.specs.declared.key.Key.{Key}
use Rattle.base.specs.Order.{key_cmp, IsBefore}

-- an event of the set has this key, and none has a smaller one
pub record IsLeastKey {C : Type 0} (events : FinMap key_cmp C) (k : Key) : Type 0 where
  pub here : contains_key events k ≡ true
  pub least : (q : Key) → contains_key events q ≡ true → ¬ (IsBefore q k)

-- no event of the set has a moment below the bound
abbrev pub NoneIsBelow : {C : Type 0} → FinMap key_cmp C → ℕ → Type 0
NoneIsBelow events bound = (q : Key) → contains_key events q ≡ true → bound ≤ q.at

-- an event of the set for this receiver has this key, and none for it has a smaller one
pub record IsLeastKeyFor {C : Type 0} (events : FinMap key_cmp C) (receiver : ℕ) (k : Key) : Type 0 where
  pub here : contains_key events k ≡ true
  pub own : k.to ≡ receiver
  pub least : (q : Key) → contains_key events q ≡ true → q.to ≡ receiver → ¬ (IsBefore q k)

-- no event of the set for this receiver has a moment below a bound
abbrev pub NoneIsBelowFor : {C : Type 0} → FinMap key_cmp C → ℕ → ℕ → Type 0
NoneIsBelowFor events receiver bound = (q : Key) → contains_key events q ≡ true → q.to ≡ receiver → bound ≤ q.at

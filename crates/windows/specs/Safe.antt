-- Which events may be handled before the least of all.
use Rattle.std.specs.Prelude.{◌≡◌, ℕ, ◌+◌, ◌<◌, ◌≤◌, Option}
use Rattle.std.specs.Option.{IfSome}
use Rattle.base.specs.declared.key.Key.{Key}
use Rattle.base.specs.Order.{IsBefore}
use Rattle.base.specs.World.{World, IsPending}

-- the least pending event of its receiver
pub record IsFirstOf {S C : Type 0} (w : World S C) (k : Key) : Type 0 where
  pub here : IsPending w k
  pub least : (q : Key) → IsPending w q → q.to ≡ k.to → ¬ (IsBefore q k)

-- the least pending event of its receiver's part
pub record IsFirstOfPart {S C : Type 0} (division : ℕ → ℕ) (w : World S C) (k : Key) : Type 0 where
  pub here : IsPending w k
  pub least : (q : Key) → IsPending w q → division q.to ≡ division k.to → ¬ (IsBefore q k)

-- An event is safe if it is the least pending event of its receiver, its moment is at most the end and, where there
-- is a least delay between members, its moment is less than the least pending moment plus that delay.
pub record IsSafe {S C : Type 0} (end : ℕ) (least_delay : Option ℕ) (w : World S C) (k : Key) : Type 0 where
  pub first : IsFirstOf w k
  pub in_time : k.at ≤ end
  pub near : IfSome least_delay (λ d. (q : Key) → IsPending w q → k.at < q.at + d)

-- and is so in a world of which this holds too
abbrev pub IsSafeIn : {S C : Type 0} → ℕ → Option ℕ → (World S C → Type 0) → World S C → Key → Type 0
IsSafeIn end least_delay Fact w k = IsSafe end least_delay w k × Fact w

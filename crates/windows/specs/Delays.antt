-- What the laws of safe steps ask of a machine.
use Rattle.std.specs.Prelude.{◌≡◌, ◌≢◌, ℕ, ◌+◌, ◌≤◌, Option, Some, None}
use Rattle.std.specs.List.{AllByRecursion}
use Rattle.std.specs.FinMap.{get}
use Rattle.base.specs.declared.key.Key.{Key}
use Rattle.base.specs.World.{Machine, World, settled, outcome, events_of}
use Rattle.base.specs.Run.{MakesLater}

-- a member is the sender of each event that it makes
abbrev pub SendsAsItself : {S C R : Type 0} → Machine S C R → Type 0
SendsAsItself {S} {C} step = (k : Key) (c : C) (s : S) → AllByRecursion (λ e. e.0.from ≡ k.to) (step k c s).events

-- Each event that a member makes has it as its sender, comes later than the one handled, and where it is for
-- another member no earlier than the delay between the two lets it.
pub record KeepsDelays {S C R : Type 0} (delay : ℕ → ℕ → ℕ) (step : Machine S C R) : Type 0 where
  pub later : MakesLater step
  pub own : SendsAsItself step
  pub delayed : (k : Key) (c : C) (s : S) → AllByRecursion (λ e. e.0.to ≢ k.to → k.at + delay k.to e.0.to ≤ e.0.at) (step k c s).events

-- An event for another member comes no earlier than the least delay after the one handled; where there is no least
-- delay, there is no other member.
abbrev pub ComesFar : Option ℕ → Key → Key → Type 0
ComesFar None k e = e.to ≡ k.to
ComesFar (Some d) k e = e.to ≢ k.to → k.at + d ≤ e.at

-- From world to world, whichever pending event is handled up to the end, a fact of the world stays, and what is made
-- for other members comes far.
pub record KeepsFar {S C R : Type 0} (end : ℕ) (least_delay : Option ℕ) (Fact : World S C → Type 0) (step : Machine S C R) : Type 0 where
  pub stays : (w : World S C) (k : Key) (c : C) → Fact w → get w.pending k ≡ Some c → k.at ≤ end → Fact (settled w k (outcome step w k c))
  pub far : (w : World S C) (k : Key) (c : C) → Fact w → get w.pending k ≡ Some c → k.at ≤ end → AllByRecursion (λ e. ComesFar least_delay k e.0) (events_of (outcome step w k c))

-- Between different members no delay is less; where there is no least delay, there are no two members.
abbrev pub IsNoMore : (ℕ → Type 0) → (ℕ → ℕ → ℕ) → Option ℕ → Type 0
IsNoMore IsMember delay None = (i j : ℕ) → IsMember i → IsMember j → i ≡ j
IsNoMore IsMember delay (Some d) = (i j : ℕ) → IsMember i → IsMember j → i ≢ j → d ≤ delay i j

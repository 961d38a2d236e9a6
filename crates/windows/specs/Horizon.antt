-- How far a part may run by itself: events that no event of another part can reach in time.
use Rattle.std.specs.Prelude.{◌≡◌, ◌≢◌, ℕ, ◌+◌, ◌<◌, ◌≤◌, List, [], ◌∷◌, Some}
use Rattle.std.specs.List.{AllByRecursion}
use Rattle.std.specs.FinMap.{get}
use Rattle.base.specs.declared.key.Key.{Key}
use Rattle.base.specs.World.{Machine, World, IsPending, settled, outcome, events_of}
use Rattle.windows.specs.Safe.{IsFirstOfPart}

-- A walk goes from a part by one or more parts, each of which is another than the one before, and has members.
abbrev pub IsWalk : (ℕ → Type 0) → ℕ → List ℕ → Type 0
IsWalk HasMembers part [] = Unit {0}
IsWalk HasMembers part (next ∷ rest) = (part ≢ next) × HasMembers next × IsWalk HasMembers next rest

-- where it ends
abbrev pub walk_end : ℕ → List ℕ → ℕ
walk_end part [] = part
walk_end part (next ∷ rest) = walk_end next rest

-- Its length adds, for each neighbouring pair, the least delay from a member of the one to a member of the other.
abbrev pub walk_length : (ℕ → ℕ → ℕ) → ℕ → List ℕ → ℕ
walk_length between part [] = 0
walk_length between part (next ∷ rest) = between part next + walk_length between next rest

-- a walk from one part to another, or back to it
pub record Walk (HasMembers : ℕ → Type 0) (from to : ℕ) : Type 0 where
  pub next : ℕ
  pub rest : List ℕ
  pub begins : HasMembers from
  pub apart : IsWalk HasMembers from (next ∷ rest)
  pub ends : walk_end next rest ≡ to

abbrev pub length_of : {HasMembers : ℕ → Type 0} {from to : ℕ} → (ℕ → ℕ → ℕ) → Walk HasMembers from to → ℕ
length_of {from = from} between walk = walk_length between from (walk.next ∷ walk.rest)

-- An event is clear if it is the least pending event of its receiver's part, its moment is at most the end, and less than
-- that of any pending event with any walk from that one's part to its own.
pub record IsClear {S C : Type 0} (end : ℕ) (division : ℕ → ℕ) (HasMembers : ℕ → Type 0) (between : ℕ → ℕ → ℕ) (w : World S C) (k : Key) : Type 0 where
  pub first : IsFirstOfPart division w k
  pub in_time : k.at ≤ end
  pub clear : (q : Key) → IsPending w q → (walk : Walk HasMembers (division q.to) (division k.to)) → k.at < q.at + length_of between walk

-- Bounds of the parts that are no more than the end and one, nor than any pending moment with any walk from its part.
pub record AreHorizons {S C : Type 0} (end : ℕ) (division : ℕ → ℕ) (HasMembers : ℕ → Type 0) (between : ℕ → ℕ → ℕ) (bounds : ℕ → ℕ) (w : World S C) : Type 0 where
  pub in_time : (part : ℕ) → bounds part ≤ end + 1
  pub clear : (part : ℕ) (q : Key) → IsPending w q → (walk : Walk HasMembers (division q.to) part) → bounds part ≤ q.at + length_of between walk

-- From world to world a fact stays, by which each event is for a part with members. What is made is for such a part too,
-- and comes to another part no earlier than what lies between the two lets it.
pub record KeepsBetween {S C R : Type 0} (end : ℕ) (division : ℕ → ℕ) (HasMembers : ℕ → Type 0) (between : ℕ → ℕ → ℕ) (Fact : World S C → Type 0) (step : Machine S C R) : Type 0 where
  pub stays : (w : World S C) (k : Key) (c : C) → Fact w → get w.pending k ≡ Some c → k.at ≤ end → Fact (settled w k (outcome step w k c))
  pub peopled : (w : World S C) (k : Key) → Fact w → IsPending w k → HasMembers (division k.to)
  pub far : (w : World S C) (k : Key) (c : C) → Fact w → get w.pending k ≡ Some c → k.at ≤ end
      → AllByRecursion (λ e. HasMembers (division e.0.to) × (division e.0.to ≢ division k.to → k.at + between (division k.to) (division e.0.to) ≤ e.0.at)) (events_of (outcome step w k c))

-- and so it is in a world of which this holds too
abbrev pub IsClearIn : {S C : Type 0} → ℕ → (ℕ → ℕ) → (ℕ → Type 0) → (ℕ → ℕ → ℕ) → (World S C → Type 0) → World S C → Key → Type 0
IsClearIn end division HasMembers between Fact w k = IsClear end division HasMembers between w k × Fact w

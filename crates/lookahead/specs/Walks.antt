-- The least lengths of walks from part to part.
use Rattle.std.specs.Prelude.{◌≡◌, ◌≢◌, ℕ, ◌<◌, ◌≤◌, ◌^◌, List, Option, Some, None}
use Rattle.scenario.specs.Setup.{Setup}
use Rattle.windows.specs.Cluster.{IsPeopled}
use Rattle.windows.specs.Horizon.{Walk, length_of}
use Rattle.lookahead.specs.Least.{IsAtMost}
use Rattle.lookahead.specs.Lengths.{length_at}

-- some walk from the one part to the other has this length
abbrev pub IsLengthOfAWalk : (ℕ → Type 0) → (ℕ → ℕ → ℕ) → ℕ → ℕ → ℕ → Type 0
IsLengthOfAWalk HasMembers between from to n = (walk : Walk HasMembers from to) × (length_of between walk ≡ n)

-- no walk from the one part to the other is shorter
abbrev pub IsNoLonger : (ℕ → Type 0) → (ℕ → ℕ → ℕ) → ℕ → ℕ → ℕ → Type 0
IsNoLonger HasMembers between from to n = (walk : Walk HasMembers from to) → n ≤ length_of between walk

-- the length of the shortest walk from the one part to the other, and None where there is no walk
abbrev pub IsLeastWalk : (ℕ → Type 0) → (ℕ → ℕ → ℕ) → ℕ → ℕ → Option ℕ → Type 0
IsLeastWalk HasMembers between from to None = ¬ (Walk HasMembers from to)
IsLeastWalk HasMembers between from to (Some n) = IsLengthOfAWalk HasMembers between from to n × IsNoLonger HasMembers between from to n

-- how many parts there are, and the lengths from each to each
pub record Table : Type 0 where
  pub parts : ℕ
  pub lengths : List (Option ℕ)

-- the table has the least lengths of the walks among the parts of this division
pub record AreWalksOf (t : Table) (s : Setup) (division : ℕ → ℕ) (between : ℕ → ℕ → ℕ) : Type 0 where
  pub least : (from to : ℕ) → from < t.parts → to < t.parts → IsLeastWalk (IsPeopled s division) between from to (length_at t.lengths from to)

-- What holds of the lengths while they are made: each is the length of a walk, and between different parts none is
-- more than what lies between them. Parts with members are among so many, and no more than 2^20 lies between them.
pub record AreLengthsOfWalks (parts : ℕ) (s : Setup) (division : ℕ → ℕ) (between : ℕ → ℕ → ℕ) (lengths : List (Option ℕ)) : Type 0 where
  pub at_most_64 : parts ≤ 64
  pub few : (part : ℕ) → IsPeopled s division part → part < parts
  pub near : (from to : ℕ) → from ≢ to → IsPeopled s division from → IsPeopled s division to → between from to ≤ 2 ^ 20
  pub walked : (from to n : ℕ) → from < 64 → to < 64 → length_at lengths from to ≡ Some n → IsLengthOfAWalk (IsPeopled s division) between from to n
  pub direct : (from to : ℕ) → from ≢ to → IsPeopled s division from → IsPeopled s division to → IsAtMost (length_at lengths from to) (between from to)
  pub back : (part n : ℕ) → part < 64 → length_at lengths part part ≡ Some n → n ≤ 2 ^ 21

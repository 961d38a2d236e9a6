-- The least delay of a cluster.
use Rattle.std.specs.Prelude.{◌≡◌, ◌-◌, ◌<◌, ◌≤◌, ℕ, Bool, true, false, not, ◌&&◌, nat_le, nat_eq, List, get_or, min, Option, Some, None}

-- an ordered pair of different members, among so many
pub record AreOrderedPair (n i j : ℕ) : Type 0 where
  pub sender : i < n
  pub receiver : j < n
  pub different : ¬ (i ≡ j)

-- the delay from some member to another one
abbrev pub IsDelayOfAPair : (ℕ → ℕ → ℕ) → ℕ → ℕ → Type 0
IsDelayOfAPair delay n d = (i : ℕ) × (j : ℕ) × AreOrderedPair n i j × (delay i j ≡ d)

-- no delay from a member to another one is less
abbrev pub IsNoGreater : (ℕ → ℕ → ℕ) → ℕ → ℕ → Type 0
IsNoGreater delay n d = (i j : ℕ) → AreOrderedPair n i j → d ≤ delay i j

-- the least delay from one of so many members to another one, where there are two
abbrev pub IsLeast : (ℕ → ℕ → ℕ) → ℕ → Option ℕ → Type 0
IsLeast delay n None = (i j : ℕ) → ¬ (AreOrderedPair n i j)
IsLeast delay n (Some d) = IsDelayOfAPair delay n d × IsNoGreater delay n d

-- the smaller of two, where there are both
abbrev pub lesser_of : Option ℕ → Option ℕ → Option ℕ
lesser_of None b = b
lesser_of (Some a) None = Some a
lesser_of (Some a) (Some b) = Some (min a b)

-- both members before this one have its group
abbrev pub is_third : List ℕ → ℕ → Bool
is_third groups m = nat_le 2 m && (nat_eq (get_or groups (m - 1) 0) (get_or groups m 0) && nat_eq (get_or groups (m - 2) 0) (get_or groups m 0))

-- another member than this one, and one of the first two of its group
abbrev pub is_other : List ℕ → ℕ → ℕ → Bool
is_other groups i j = not (nat_eq j i) && not (is_third groups j)

-- the least delay from a member to those of the first k that are taken
abbrev pub IsLeastFrom : (ℕ → Bool) → (ℕ → ℕ) → ℕ → Option ℕ → Type 0
IsLeastFrom takes delay k None = (j : ℕ) → j < k → takes j ≡ false
IsLeastFrom takes delay k (Some d) =
    ((j : ℕ) × (j < k) × (takes j ≡ true) × (delay j ≡ d)) × ((j : ℕ) → j < k → takes j ≡ true → d ≤ delay j)

-- the least delay from those of the first k of n members that aren't passed over to those that are taken for them
abbrev pub IsLeastBelow : (ℕ → Bool) → (ℕ → ℕ → Bool) → (ℕ → ℕ → ℕ) → ℕ → ℕ → Option ℕ → Type 0
IsLeastBelow passed takes delay n k None = (i j : ℕ) → i < k → passed i ≡ false → j < n → takes i j ≡ false
IsLeastBelow passed takes delay n k (Some d) =
    ((i : ℕ) × (j : ℕ) × (i < k) × (j < n) × (takes i j ≡ true) × (delay i j ≡ d)) × ((i j : ℕ) → i < k → passed i ≡ false → j < n → takes i j ≡ true → d ≤ delay i j)

-- The least of numbers of which some may not be there, and sums of such numbers.
use Rattle.std.specs.Prelude.{◌≡◌, ℕ, ◌+◌, ◌-◌, ◌^◌, ◌<◌, ◌≤◌, min, Bool, true, false, nat_lt, Option, Some, None}

-- of the first k, the least of those that are there
abbrev pub IsLeastOf : (ℕ → Option ℕ) → ℕ → Option ℕ → Type 0
IsLeastOf numbers k None = (m : ℕ) → m < k → numbers m ≡ None
IsLeastOf numbers k (Some d) = ((m : ℕ) × (m < k) × (numbers m ≡ Some d)) × ((m n : ℕ) → m < k → numbers m ≡ Some n → d ≤ n)

-- the sum of two, where there are both: no more than the greatest number of 64 bits
abbrev pub sum_of : Option ℕ → Option ℕ → Option ℕ
sum_of (Some a) (Some b) = Some (min (a + b) (2 ^ 64 - 1))
sum_of (Some a) None = None
sum_of None b = None

-- there, and no more
abbrev pub IsAtMost : Option ℕ → ℕ → Type 0
IsAtMost None n = ⊥
IsAtMost (Some d) n = d ≤ n

-- a number that is less than the other, or there is no other
abbrev pub is_less : Option ℕ → Option ℕ → Bool
is_less None b = false
is_less (Some a) None = true
is_less (Some a) (Some b) = nat_lt a b

-- Small and large numbers in two columns.
use Rattle.std.proofs.Common.{◌≡◌, ℕ, zero, suc, max, List, [], ◌∷◌, slice_index, refl, sym, ◌∙◌, arith}
use Rattle.membership.specs.Numbers.{joined}

-- the number at a place
pub joined_at : (smalls larges : List ℕ) (k : ℕ) → slice_index (joined smalls larges) k ≡ max (slice_index smalls k) (slice_index larges k)
joined_at [] larges k = let none : slice_index [] k ≡ 0 = refl in omega (arith, none)
joined_at (small ∷ smalls) [] k = let none : slice_index [] k ≡ 0 = refl in omega (arith, none)
joined_at (small ∷ smalls) (large ∷ larges) zero = refl
joined_at (small ∷ smalls) (large ∷ larges) (suc k) = joined_at smalls larges k

-- columns that hold the same at a place
pub joined_same : (smalls' larges' smalls larges : List ℕ) (k : ℕ) → slice_index smalls' k ≡ slice_index smalls k → slice_index larges' k ≡ slice_index larges k
    → slice_index (joined smalls' larges') k ≡ slice_index (joined smalls larges) k
joined_same smalls' larges' smalls larges k small large = joined_at smalls' larges' k ∙ (λ i. max (small i) (large i)) ∙ sym (joined_at smalls larges k)

-- a number that was written
pub joined_small : (smalls larges : List ℕ) (place number : ℕ) → slice_index smalls place ≡ number → slice_index larges place ≡ 0 → slice_index (joined smalls larges) place ≡ number
joined_small smalls larges place number small large = let both = joined_at smalls larges place in omega (arith, both, small, large)

pub joined_large : (smalls larges : List ℕ) (place number : ℕ) → slice_index smalls place ≡ 0 → slice_index larges place ≡ number → slice_index (joined smalls larges) place ≡ number
joined_large smalls larges place number small large = let both = joined_at smalls larges place in omega (arith, both, small, large)

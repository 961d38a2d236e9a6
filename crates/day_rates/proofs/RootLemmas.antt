-- The root of a number is how many numbers from 1 on have a square that is no greater.
use Rattle.std.proofs.Common.{◌≡◌, ◌+◌, ◌-◌, ◌*◌, ◌<◌, ◌≤◌, ℕ, zero, suc, Bool, true, false, cond, min, refl, ap, ◌∙◌, arith}
use Rattle.std.specs.Prelude.{nat_le, count_by}
use Rattle.std.specs.List.{range_with_len}
use Rattle.std.proofs.lemmas.Nat.{mul-le}
use Rattle.std.proofs.lemmas.Bool.Decides.{nat_tests}
use Rattle.std.proofs.lemmas.List.Sums.{sum_by-cons}
use Rattle.day_rates.specs.Roots.{root}

pub le_true : (a b : ℕ) → a ≤ b → nat_le a b ≡ true
le_true a b le = grind (arith, nat_tests)

pub le_false : (a b : ℕ) → b < a → nat_le a b ≡ false
le_false a b lt = grind (arith, nat_tests)

pub le_from : (a b : ℕ) → nat_le a b ≡ true → a ≤ b
le_from a b held = grind (arith, nat_tests)

pub lt_from : (a b : ℕ) → nat_le a b ≡ false → b < a
lt_from a b failed = grind (arith, nat_tests)

module _ (n r : ℕ) (low : r * r ≤ n) (high : n < (r + 1) * (r + 1)) where
  within : (q : ℕ) → q ≤ r → nat_le (q * q) n ≡ true
  within q le = le_true (q * q) n (omega (arith, low, mul-le q q r r le le))

  past : (q : ℕ) → r < q → nat_le (q * q) n ≡ false
  past q lt = le_false (q * q) n (omega (arith, high, mul-le (r + 1) (r + 1) q q (omega (arith, lt)) (omega (arith, lt))))

  up_to_root : (count first : ℕ) → count_by (λ q. nat_le (q * q) n) (range_with_len first count) ≡ min (first + count) (r + 1) - min first (r + 1)
  up_to_root zero first = none first
    where
      none : (k : ℕ) → 0 ≡ min (k + 0) (r + 1) - min k (r + 1)
      none k = omega arith
  up_to_root (suc count) first =
      sum_by-cons (λ (q : ℕ). cond (nat_le (q * q) n) 1 0) first (range_with_len (first + 1) count)
      ∙ ap (λ k. cond (nat_le (first * first) n) 1 0 + k) (up_to_root count (first + 1))
      ∙ step (nat_le first r) refl
    where
      step : (b : Bool) → nat_le first r ≡ b → cond (nat_le (first * first) n) 1 0 + (min (first + 1 + count) (r + 1) - min (first + 1) (r + 1)) ≡ min (first + suc count) (r + 1) - min first (r + 1)
      step true le = ap (λ b. cond b 1 0 + (min (first + 1 + count) (r + 1) - min (first + 1) (r + 1))) (within first (le_from first r le)) ∙ omega (arith, le_from first r le)
      step false lt = ap (λ b. cond b 1 0 + (min (first + 1 + count) (r + 1) - min (first + 1) (r + 1))) (past first (lt_from first r lt)) ∙ omega (arith, lt_from first r lt)

  some : (k : ℕ) → k ≤ k * k
  some zero = omega arith
  some (suc k) = omega (arith, mul-le (suc k) 1 (suc k) (suc k) (omega arith) (omega arith))

  pub root_is : root n ≡ r
  unfolding root
  root_is = up_to_root n 1 ∙ omega (arith, low, some r)

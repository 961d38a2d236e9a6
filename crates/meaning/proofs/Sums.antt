-- Sums over the first members, and their average.
use Rattle.std.proofs.Common.{◌≡◌, ℕ, ◌+◌, ◌*◌, ◌/◌, ◌<◌, ◌≤◌, map, zero-add, arith}
use Rattle.std.specs.List.{range_with_len, sum}
use Rattle.std.proofs.lemmas.List.FromFn.{sum_by-map-range_with_len_more}
use Rattle.std.proofs.Math.Nat.{div-mul-le_self, le_of_mul-le-mul_left}

-- one member more
pub sum_more : (f : ℕ → ℕ) (k : ℕ) → sum (map f (range_with_len 0 (k + 1))) ≡ sum (map f (range_with_len 0 k)) + f k
sum_more f k = sum_by-map-range_with_len_more (λ x. x) f 0 k k (zero-add k)

-- of numbers that are 38 at most so is the average
pub average_small : (sum n : ℕ) → 0 < n → sum ≤ 38 * n → sum / n ≤ 38
average_small sum n some few =
    let whole : sum / n * n ≤ sum = div-mul-le_self sum n in
    let times : n * (sum / n) ≤ n * 38 = omega (arith, whole, few) in
    le_of_mul-le-mul_left times some

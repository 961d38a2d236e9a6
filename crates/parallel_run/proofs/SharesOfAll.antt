-- The shares of all workers together.
use Rattle.std.proofs.Common.{◌≡◌, ◌≤◌, ℕ, zero, suc, ◌+◌, ◌-◌, ◌*◌, ◌/◌, ◌%◌, map, nat_lt, if◌then◌else◌, arith}
use Rattle.std.specs.List.{range_with_len, sum, sum_by}
use Rattle.std.proofs.lemmas.List.Sums.{sum-map, sum_by-cons}
use Rattle.std.proofs.Math.Nat.{add-mul, div-add-mod, mod-lt}
use Rattle.parallel_run.specs.Shares.{share_of}

-- that of a worker, where each has q and the first r one more
abbrev with_one : ℕ → ℕ → ℕ → ℕ
with_one q r i = q + (if nat_lt i r then 1 else 0)

one_more : (q r a : ℕ) → with_one q r a + (r - (a + 1)) ≡ q + (r - a)
one_more q r a = grind arith

-- from worker a on
shares_from : (q r n a : ℕ) → sum_by (with_one q r) (range_with_len a n) + (r - (a + n)) ≡ n * q + (r - a)
shares_from q r zero a = omega arith
shares_from q r (suc n) a =
    let first : sum_by (with_one q r) (range_with_len a (suc n)) ≡ with_one q r a + sum_by (with_one q r) (range_with_len (a + 1) n) = sum_by-cons (with_one q r) a (range_with_len (a + 1) n) in
    omega (arith, first, shares_from q r n (a + 1), one_more q r a, add-mul n 1 q)

pub shares_of_all : (all workers : ℕ) → 1 ≤ workers → sum (map (share_of all workers) (range_with_len 0 workers)) ≡ all
shares_of_all all workers some =
    let from : sum_by (share_of all workers) (range_with_len 0 workers) + (all % workers - (0 + workers)) ≡ workers * (all / workers) + (all % workers - 0) = shares_from (all / workers) (all % workers) workers 0 in
    omega (arith, sum-map (share_of all workers) (range_with_len 0 workers), from, mod-lt all some, div-add-mod all workers)

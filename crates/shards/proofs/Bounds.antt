-- How the runs of shards stand among all runs.
use Rattle.std.proofs.Common.{◌≡◌, ℕ, ◌+◌, ◌*◌, ◌/◌, ◌%◌, ◌<◌, ◌≤◌, arith, div-lt_iff_lt-mul}
use Rattle.std.proofs.lemmas.Nat.{mul-le, le-div, div-add-mod'}
use Rattle.std.proofs.Math.Nat.{mul-div_cancel_left}

-- a share of all runs is no more than these
pub share_within : (n of runs : ℕ) → n ≤ of → 0 < of → n * runs / of ≤ runs
share_within n of runs le some =
    let low : n * runs ≤ of * runs = mul-le n runs of runs le (omega arith) in
    let all : (runs + 1) * of ≡ of * runs + of = omega arith in
    let below : n * runs / of < runs + 1 = (div-lt_iff_lt-mul some).1 (omega (arith, low, all, some)) in
    omega (arith, below)

-- a greater share has more of them
pub share_grows : (m n of runs : ℕ) → m ≤ n → 0 < of → m * runs / of ≤ n * runs / of
share_grows m n of runs le some =
    let split : m * runs / of * of + m * runs % of ≡ m * runs = div-add-mod' (m * runs) of in
    let low : m * runs ≤ n * runs = mul-le m runs n runs le (omega arith) in
    le-div (m * runs / of) (n * runs) of some (omega (arith, split, low))

-- all shares are all runs
pub whole_share : (of runs : ℕ) → 0 < of → of * runs / of ≡ runs
whole_share of runs some = mul-div_cancel_left runs some

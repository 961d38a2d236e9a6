-- A number's decimal text against that of its quotient by ten.
use Rattle.std.proofs.Common.{◌≡◌, ℕ, ◌+◌, ◌-◌, ◌/◌, ◌%◌, ◌<◌, ◌≤◌, ◌^◌, [], ◌∷◌, length, get_or, ap, ◌∙◌, arith, length-append}
use Rattle.std.specs.Fmt.{decimal}
use Rattle.std.proofs.lemmas.Fmt.{decimal_digit, decimal_step, decimal_nonempty, length-decimal-le}
use Rattle.std.proofs.lemmas.List.{get_or_append_left}

-- one digit fewer
pub length-decimal_step : (n : ℕ) → 10 ≤ n → n < 2 ^ 32 → length (decimal n) ≡ length (decimal (n / 10)) + 1
length-decimal_step n big small =
    ap length (decimal_step n big (omega arith)) ∙ length-append (decimal (n / 10)) ((48 + n % 10) ∷ [])

-- the same first one
pub first-decimal_step : (n : ℕ) → 10 ≤ n → n < 2 ^ 32 → get_or (decimal n) 0 0 ≡ get_or (decimal (n / 10)) 0 0
first-decimal_step n big small =
    let smaller : n / 10 < 2 ^ 64 = omega arith in
    ap (λ text. get_or text 0 0) (decimal_step n big (omega arith)) ∙ get_or_append_left (decimal (n / 10)) ((48 + n % 10) ∷ []) 0 0 (decimal_nonempty (n / 10) smaller)

-- a text of one digit
pub length-decimal_digit : (n : ℕ) → n < 10 → length (decimal n) ≡ 1
length-decimal_digit n small = ap length (decimal_digit n small)

pub first-decimal_digit : (n : ℕ) → n < 10 → get_or (decimal n) 0 0 - 48 ≡ n
first-decimal_digit n small = let first : get_or (decimal n) 0 0 ≡ 48 + n = ap (λ text. get_or text 0 0) (decimal_digit n small) in omega arith

-- ten digits at most
pub length-decimal_below : (n : ℕ) → n < 2 ^ 32 → length (decimal n) ≤ 10
length-decimal_below n small = length-decimal-le 10 n (omega arith) (omega arith) (omega arith)

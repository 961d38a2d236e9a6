-- Words that are numbers in decimal, without sign or leading zero.
use Rattle.std.proofs.Common.{◌≡◌, ◌≢◌, ◌<◌, ◌≤◌, ◌^◌, ◌==◌, ◌&&◌, ℕ, zero, suc, Bool, true, false, List, ◌∷◌, [], Result, Ok, Err, length, get_or, decimal, sym, ap, subst, refl, ◌∙◌, arith}
use Rattle.std.specs.Str.Parse.{AllDigits, ParsesUnsigned, digits_value}
use Rattle.std.proofs.lemmas.Bool.Decides.{nat_tests}
use Rattle.std.proofs.lemmas.Str.Parse.{IsNumeralModel, numerals_by_value, tells_digits, parse_plain, digit_at}
use Rattle.std.proofs.lemmas.Fmt.{decimal-digits_value, decimal_injective, decimal_is_IsNumeral, decimal_digit, first_decimal, parse-decimal}
use Rattle.decimals.specs.Numbers.{has_sign_or_zero, IsDecimal}

own : IsNumeralModel (AllDigits 10) (digits_value 10)
own = numerals_by_value (AllDigits 10) tells_digits

no_sign : (word : List ℕ) → has_sign_or_zero word ≡ false → get_or word 0 0 ≢ 43
no_sign [] bare is = absurd (omega arith)
no_sign (first ∷ rest) bare is =
    let sign : (first == 43) ≡ true = grind (arith, nat_tests) in
    let shown : has_sign_or_zero (first ∷ rest) ≡ true = rw sign refl in
    let bad : true ≡ false = sym shown ∙ bare in
    cc

no_lead : (word : List ℕ) → has_sign_or_zero word ≡ false → get_or word 0 0 ≡ 48 → length word ≤ 1
no_lead [] bare is = omega arith
no_lead (first ∷ []) bare is = omega arith
no_lead (first ∷ second ∷ rest) bare is =
    let sign : (first == 43) ≡ false = grind (arith, nat_tests) in
    let lead : (first == 48) ≡ true = grind (arith, nat_tests) in
    let some : (suc (length rest) == 0) ≡ false = grind (arith, nat_tests) in
    let shown : has_sign_or_zero (first ∷ second ∷ rest) ≡ true = rw (sign, lead, some) refl in
    let bad : true ≡ false = sym shown ∙ bare in
    cc

bare_text : (word : List ℕ) → get_or word 0 0 ≢ 43 → (get_or word 0 0 ≡ 48 → length word ≤ 1) → has_sign_or_zero word ≡ false
bare_text [] sign lead = refl
bare_text (first ∷ []) sign lead =
    let plain : (first == 43) ≡ false = grind (arith, nat_tests) in
    rw plain (and_false (first == 48))
  where
    and_false : (b : Bool) → (b && false) ≡ false
    and_false true = refl
    and_false false = refl
bare_text (first ∷ second ∷ rest) sign lead =
    let plain : (first == 43) ≡ false = grind (arith, nat_tests) in
    let other : first ≢ 48 = λ is. let few = lead is in omega arith in
    let digit : (first == 48) ≡ false = grind (arith, nat_tests) in
    rw (plain, digit) refl

-- a text of digits with no leading zero is what its number writes
pub parsed : {E : Type 0} (word : List ℕ) (n : ℕ) (e : Result ℕ E) → e ≡ Ok n → ParsesUnsigned 64 10 word e → has_sign_or_zero word ≡ false → (decimal n ≡ word) × (n < 2 ^ 64)
parsed {E} word n e is p bare =
    let at : ParsesUnsigned {E = E} 64 10 word (Ok n) = subst (ParsesUnsigned {E = E} 64 10 word) is p in
    let plain = parse_plain own {E = E} 64 word (Ok n) at (no_sign word bare) in
    let some : 0 < length word = plain.0.1 in
    let small : digits_value 10 word < 2 ^ 64 = plain.0.2 in
    let value : digits_value 10 word ≡ n = sym plain.1 in
    let written : decimal n ≡ word = ap decimal plain.1 ∙ decimal-digits_value own word plain.0.0 some (λ zero_first. let few = no_lead word bare zero_first in omega arith) small in
    (written, omega arith)

-- what a number writes is read
pub unparsed : {E : Type 0} (word : List ℕ) (n : ℕ) (r : Result ℕ E) (e : E) → r ≡ Err e → ParsesUnsigned 64 10 word r → IsDecimal word n → ⊥
unparsed word n r e is p number =
    let low = number.low in
    let below : n < 2 ^ 64 = omega arith in
    let read : r ≡ Ok n = parse-decimal 64 n word r below below (sym number.written) p in
    cc

-- a number writes no sign and no leading zero
pub unprefixed : (n : ℕ) → n < 2 ^ 63 → has_sign_or_zero (decimal n) ≡ false
unprefixed n low = bare_text (decimal n) (sign n low) (lead n low)
  where
    sign : (m : ℕ) → m < 2 ^ 63 → get_or (decimal m) 0 0 ≢ 43
    sign m small is =
        let digits = decimal_is_IsNumeral m (omega arith) in
        let digit = digit_at (decimal m) 0 digits.0.1 digits.0.0 in
        omega (arith, digit.0, is)

    lead : (m : ℕ) → m < 2 ^ 63 → get_or (decimal m) 0 0 ≡ 48 → length (decimal m) ≤ 1
    lead zero small is = let one : length (decimal 0) ≡ 1 = ap length (decimal_digit 0 (omega arith)) in omega arith
    lead (suc m) small is = let more = first_decimal (suc m) (omega arith) (omega arith) in absurd (omega (arith, more, is))

-- numbers of one word are one
pub same_number : (word : List ℕ) (m n : ℕ) → IsDecimal word m → IsDecimal word n → m ≡ n
same_number word m n a b =
    let low_a = a.low in
    let low_b = b.low in
    decimal_injective m n (omega arith) (omega arith) (a.written ∙ sym b.written)

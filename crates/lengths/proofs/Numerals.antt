-- Words that are numbers: how they are cut, and that a word is one number.
use Rattle.std.proofs.Common.{◌≡◌, ℕ, zero, suc, ◌+◌, ◌-◌, ◌*◌, ◌^◌, ◌<◌, ◌≤◌, ◌==◌, ◌&&◌, ◌||◌, Bool, true, false, List, [], ◌∷◌, ◌++◌, length, length-append, get_or, take, drop, take_at, refl, sym, ap, ◌∙◌, arith}
use Rattle.std.specs.Char.{is_ascii_digit}
use Rattle.std.specs.Int.{IsInRange}
use Rattle.std.specs.List.{prefix_len}
use Rattle.std.specs.Str.{all_ascii_digits}
use Rattle.std.specs.Str.Parse.{digits_value}
use Rattle.std.proofs.lemmas.List.{drop_at, take_all}
use Rattle.std.proofs.lemmas.Str.Parse.{IsNumeralModel, tells_all_ascii_digits, numerals_by_value, digits_value_short, digits_value-take-le}
use Rattle.lengths.specs.Numerals.{is_number_byte, pointed, IsNumeral}

own : IsNumeralModel (λ ds. all_ascii_digits ds ≡ true) (digits_value 10)
own = numerals_by_value (λ ds. all_ascii_digits ds ≡ true) tells_all_ascii_digits

pub both : (a b : Bool) → (a && b) ≡ true → (a ≡ true) × (b ≡ true)
both true b is = (refl, is)
both false b is = absurd (cc)

conj : (a b : Bool) → a ≡ true → b ≡ true → (a && b) ≡ true
conj true b a_is b_is = b_is
conj false b a_is b_is = a_is

either : (a b : Bool) → a ≡ true → (a || b) ≡ true
either true b is = refl
either false b is = absurd (cc)

-- ---- bytes that pass a test at the front

pub next_passes : (p : ℕ → Bool) (x : ℕ) (xs : List ℕ) → p x ≡ true → prefix_len p (x ∷ xs) ≡ suc (prefix_len p xs)
next_passes p x xs is = rw is (omega arith)

pub next_stops : (p : ℕ → Bool) (x : ℕ) (xs : List ℕ) → p x ≡ false → prefix_len p (x ∷ xs) ≡ 0
next_stops p x xs is = rw is refl

append_on : (p : ℕ → Bool) (x : ℕ) (xs ys : List ℕ) (b : Bool) → p x ≡ b → prefix_len p (x ∷ xs) ≡ suc (length xs)
    → (prefix_len p xs ≡ length xs → prefix_len p (xs ++ ys) ≡ length xs + prefix_len p ys) → prefix_len p (x ∷ (xs ++ ys)) ≡ suc (length xs) + prefix_len p ys
append_on p x xs ys true passes is rest =
    let long : suc (prefix_len p xs) ≡ suc (length xs) = sym (next_passes p x xs passes) ∙ is in
    let behind : prefix_len p (xs ++ ys) ≡ length xs + prefix_len p ys = rest (omega arith) in
    let sum : suc (prefix_len p (xs ++ ys)) ≡ suc (length xs) + prefix_len p ys = omega arith in
    next_passes p x (xs ++ ys) passes ∙ sum
append_on p x xs ys false stops is rest =
    let none : 0 ≡ suc (length xs) = sym (next_stops p x xs stops) ∙ is in absurd (omega arith)

pub append_passes : (p : ℕ → Bool) (xs ys : List ℕ) → prefix_len p xs ≡ length xs → prefix_len p (xs ++ ys) ≡ length xs + prefix_len p ys
append_passes p [] ys is = omega arith
append_passes p (x ∷ xs) ys is = append_on p x xs ys (p x) refl is (append_passes p xs ys)

-- ---- digits

pub digits_pass : (ds : List ℕ) → all_ascii_digits ds ≡ true → prefix_len is_ascii_digit ds ≡ length ds
digits_pass [] all = refl
digits_pass (c ∷ cs) all =
    let parts = both (is_ascii_digit c) (all_ascii_digits cs) all in
    next_passes is_ascii_digit c cs parts.0 ∙ ap suc (digits_pass cs parts.1)

taken_on : (x : ℕ) (xs : List ℕ) (b : Bool) → is_ascii_digit x ≡ b → all_ascii_digits (take (prefix_len is_ascii_digit xs) xs) ≡ true
    → all_ascii_digits (take (prefix_len is_ascii_digit (x ∷ xs)) (x ∷ xs)) ≡ true
taken_on x xs true is rest =
    ap (λ (n : ℕ). all_ascii_digits (take n (x ∷ xs))) (next_passes is_ascii_digit x xs is)
    ∙ conj (is_ascii_digit x) (all_ascii_digits (take (prefix_len is_ascii_digit xs) xs)) is rest
taken_on x xs false is rest = ap (λ (n : ℕ). all_ascii_digits (take n (x ∷ xs))) (next_stops is_ascii_digit x xs is)

-- what stands before the first byte that is none
pub taken_digits : (xs : List ℕ) → all_ascii_digits (take (prefix_len is_ascii_digit xs) xs) ≡ true
taken_digits [] = refl
taken_digits (x ∷ xs) = taken_on x xs (is_ascii_digit x) refl (taken_digits xs)

pub full_digits : (xs : List ℕ) → prefix_len is_ascii_digit xs ≡ length xs → all_ascii_digits xs ≡ true
full_digits xs full =
    ap all_ascii_digits (sym (take_all (prefix_len is_ascii_digit xs) xs (omega (arith, full)))) ∙ taken_digits xs

pub digit_in : (ds : List ℕ) (i : ℕ) → all_ascii_digits ds ≡ true → i < length ds → IsInRange 48 57 (get_or ds i 0)
digit_in [] i all low = absurd (omega arith)
digit_in (c ∷ cs) zero all low = (tells_all_ascii_digits.parts c cs all).0
digit_in (c ∷ cs) (suc i) all low = digit_in cs i (tells_all_ascii_digits.parts c cs all).1 (omega arith)

-- the number of at most twelve digits, and of those before one of them
pub so_far_small : (ds : List ℕ) (i : ℕ) → all_ascii_digits ds ≡ true → length ds ≤ 12 → digits_value 10 (take i ds) < 10 ^ 12
so_far_small ds i all few =
    let whole = digits_value_short own ds 12 all few in
    let front = digits_value-take-le 10 ds i (omega arith) in
    omega (arith, whole, front)

-- ---- how a number is cut

point_stops : (fraction : List ℕ) → prefix_len is_ascii_digit (pointed fraction) ≡ 0
point_stops [] = refl
point_stops (d ∷ ds) = refl

module _ (most places : ℕ) (word : List ℕ) (value : ℕ) (is : IsNumeral most places word value) where
  -- the digits before the point come first
  pub whole_cut : (n : ℕ) → n ≡ prefix_len is_ascii_digit word → (take n word ≡ is.whole) × (drop n word ≡ pointed is.fraction)
  whole_cut n count =
      let cut = append_passes is_ascii_digit is.whole (pointed is.fraction) (digits_pass is.whole is.digits) in
      let at : prefix_len is_ascii_digit word ≡ prefix_len is_ascii_digit (is.whole ++ pointed is.fraction) = ap (prefix_len is_ascii_digit) (sym is.written) in
      let stops = point_stops is.fraction in
      let long : length is.whole ≡ n = omega (arith, cut, at, stops, count) in
      (ap (take n) (sym is.written) ∙ take_at is.whole (pointed is.fraction) n long, ap (drop n) (sym is.written) ∙ drop_at is.whole (pointed is.fraction) n long)

pub pointed_one : (a b : List ℕ) → pointed a ≡ pointed b → a ≡ b
pointed_one [] [] same = refl
pointed_one [] (d ∷ ds) same = absurd (cc)
pointed_one (d ∷ ds) [] same = absurd (cc)
pointed_one (d ∷ ds) (e ∷ es) same = cc

-- a word is one number
pub same_numeral : (most places : ℕ) (word : List ℕ) (a b : ℕ) → IsNumeral most places word a → IsNumeral most places word b → a ≡ b
same_numeral most places word a b p q =
    let first = whole_cut most places word a p (prefix_len is_ascii_digit word) refl in
    let second = whole_cut most places word b q (prefix_len is_ascii_digit word) refl in
    let whole : p.whole ≡ q.whole = sym first.0 ∙ second.0 in
    let fraction : p.fraction ≡ q.fraction = pointed_one p.fraction q.fraction (sym first.1 ∙ second.1) in
    p.counts
    ∙ ap (λ (ds : List ℕ). digits_value 10 ds * 10 ^ places + digits_value 10 p.fraction * 10 ^ (places - length p.fraction)) whole
    ∙ ap (λ (ds : List ℕ). digits_value 10 q.whole * 10 ^ places + digits_value 10 ds * 10 ^ (places - length ds)) fraction
    ∙ sym q.counts

-- ---- digits and points

number_pass : (ds : List ℕ) → all_ascii_digits ds ≡ true → prefix_len is_number_byte ds ≡ length ds
number_pass [] all = refl
number_pass (c ∷ cs) all =
    let parts = both (is_ascii_digit c) (all_ascii_digits cs) all in
    next_passes is_number_byte c cs (either (is_ascii_digit c) (c == 46) parts.0) ∙ ap suc (number_pass cs parts.1)

point_passes : (fraction : List ℕ) → all_ascii_digits fraction ≡ true → prefix_len is_number_byte (pointed fraction) ≡ length (pointed fraction)
point_passes [] all = refl
point_passes (d ∷ ds) all = next_passes is_number_byte 46 (d ∷ ds) refl ∙ ap suc (number_pass (d ∷ ds) all)

-- a number has digits and points alone
pub word_passes : (most places : ℕ) (word : List ℕ) (value : ℕ) → IsNumeral most places word value → prefix_len is_number_byte word ≡ length word
word_passes most places word value is =
    let whole = append_passes is_number_byte is.whole (pointed is.fraction) (number_pass is.whole is.digits) in
    let behind = point_passes is.fraction is.behind in
    let long = length-append is.whole (pointed is.fraction) in
    let count : prefix_len is_number_byte (is.whole ++ pointed is.fraction) ≡ length (is.whole ++ pointed is.fraction) = omega (arith, whole, behind, long) in
    ap (prefix_len is_number_byte) (sym is.written) ∙ count ∙ ap length is.written

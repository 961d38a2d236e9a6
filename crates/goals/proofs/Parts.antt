-- The parts of the words by which something is wanted.
use Rattle.std.proofs.Common.{◌≡◌, ◌∙◌, ◌<◌, ◌^◌, ℕ, List, Option, Some, None, Result, Ok, Err, Bor, length, get_or, inl, inr, sym, subst, ap, lit<, arith}
use Rattle.std.specs.Option.{MatchOption}
use Rattle.std.specs.Str.Parse.{AllDigits, ParsesUnsigned, digits_value}
use Rattle.std.proofs.lemmas.Str.Parse.{IsNumeralModel, digits_value_short, numerals_by_value, parse_gives, tells_digits}
use Rattle.std.proofs.lemmas.Str.Pattern.{IsSplitOnceResult, split_after, split_parts}
use Rattle.decimals.specs.Numbers.{IsDecimal}
use Rattle.sweep_plan.proofs.Words.{Lacks, decimal_lacks, unlike}
use Rattle.goals.specs.Words.{IsBroken, IsFraction, IsNumber, IsWhole}

own : IsNumeralModel (AllDigits 10) (digits_value 10)
own = numerals_by_value (AllDigits 10) tells_digits

-- what is a part of one is read
pub unread : {E : Type 0} (digits : List ℕ) (part : ℕ) (r : Result ℕ E) (e : E) → r ≡ Err e → ParsesUnsigned 64 10 digits r → IsFraction digits part → ⊥
unread digits part r e is p fraction =
    let short : digits_value 10 digits < 1000000 = digits_value_short own digits 6 fraction.numeral.1 fraction.few in
    let small : digits_value 10 digits < 2 ^ 64 = omega (arith, short) in
    let read : r ≡ Ok (digits_value 10 digits) = parse_gives own 64 digits r p fraction.numeral.1 fraction.numeral.0 small in
    cc

abbrev Parted : Type 0
Parted = Option (Bor (List ℕ) × Bor (List ℕ))

-- a whole number has no point
no_point : (word : List ℕ) (n i : ℕ) → IsDecimal word n → i < length word → ¬ (get_or word i 0 ≡ 46)
no_point word n i number within =
    let low = number.low in
    unlike 46 word (subst (Lacks 46) number.written (decimal_lacks n 46 (omega arith) (lit< tt))) i within

module _ (word : List ℕ) (n : ℕ) (parted : Parted) (cut : IsSplitOnceResult 46 word parted) where
  at_point : (broken : IsBroken word n) → MatchOption parted ⊥ (λ x. (x.0.now ≡ broken.front) × (x.1.now ≡ broken.back))
  at_point broken = split_after 46 word broken.front broken.back parted cut (lit< tt) broken.written (λ i within. no_point broken.front broken.whole i broken.decimal within)

  -- where no point is found, the number is whole
  pub unbroken : parted ≡ None → IsBroken word n → ⊥
  unbroken none broken = rw none at (at_point broken)

  module _ (front back : Bor (List ℕ)) (some : parted ≡ Some (front, back)) where
    -- where one is found, it isn't
    pub not_whole : IsWhole word n → ⊥
    not_whole number =
        let parts = rw some at (split_parts 46 word parted cut (lit< tt)) in
        no_point word number.whole (length front.now) number.decimal
        (subst (λ w. length front.now < length w) (sym parts.0) (grind arith))
        (ap (λ w. get_or w (length front.now) 0) parts.0 ∙ grind arith)

    parts_of : (broken : IsBroken word n) → (front.now ≡ broken.front) × (back.now ≡ broken.back)
    parts_of broken = rw some at (at_point broken)

    pub front_is : (broken : IsBroken word n) → IsDecimal front.now broken.whole
    front_is broken = subst (λ w. IsDecimal w broken.whole) (sym (parts_of broken).0) broken.decimal

    pub back_is : (broken : IsBroken word n) → IsFraction back.now broken.part
    back_is broken = subst (λ w. IsFraction w broken.part) (sym (parts_of broken).1) broken.fraction

    -- so its parts would be there
    pub no_number : ((whole : ℕ) → (part : ℕ) → IsDecimal front.now whole → IsFraction back.now part → ⊥) → IsNumber word n → ⊥
    no_number none (inl whole) = not_whole whole
    no_number none (inr broken) = none broken.whole broken.part (front_is broken) (back_is broken)

-- where no point is found, a number that isn't whole isn't one
pub no_whole : (word : List ℕ) (n : ℕ) (parted : Parted) → IsSplitOnceResult 46 word parted → parted ≡ None → ¬ (IsWhole word n) → IsNumber word n → ⊥
no_whole word n parted cut is none (inl whole) = none whole
no_whole word n parted cut is none (inr broken) = unbroken word n parted cut is broken

-- The words that say how long a tick lasts.
use Rattle.std.proofs.Common.{◌≡◌, ◌≢◌, ℕ, ◌*◌, ◌<◌, ◌≤◌, List, ◌++◌, Option, Some, None, Bor, sym, ap, subst, ◌∙◌, arith, decimal}
use Rattle.std.specs.Option.{MatchOption}
use Rattle.std.specs.Str.Pattern.{StripsSuffix, FindsTextSuffix}
use Rattle.std.proofs.lemmas.List.{append_cancel_right}
use Rattle.decimals.specs.Numbers.{IsDecimal}
use Rattle.decimals.proofs.Numbers.{same_number}
use Rattle.ticks.specs.declared.tick.Tick.{Tick}
use Rattle.ticks.specs.declared.unit.Unit.{Unit}
use Rattle.ticks.specs.declared.unit.Unit.TheVariants.{Microsecond, Millisecond, Second}
use Rattle.ticks.specs.Ticks.{unit_word, unit_length, IsTickIn, IsTickWord}

-- what stands before a name at the end of a word, where it ends so
pub front_of : (word name : List ℕ) (r : Option (Bor (List ℕ))) → MatchOption r (FindsTextSuffix name word None) (λ x. StripsSuffix (FindsTextSuffix name) word x.now)
    → MatchOption r ((front : List ℕ) → word ≢ front ++ name) (λ x. word ≡ x.now ++ name)
front_of word name None none = none
front_of word name (Some x) (k, finds, is, _) = finds.1 ∙ ap (λ l. l ++ name) (sym is)

-- a number of a unit is at least as many microseconds
pub at_least : (unit : Unit) (number : ℕ) → number ≤ number * unit_length unit
at_least Microsecond number = omega arith
at_least Millisecond number = omega arith
at_least Second number = omega arith

-- none of a unit is no microsecond
pub none_of : (unit : Unit) (number : ℕ) → number ≡ 0 → ¬ (1 ≤ number * unit_length unit)
none_of Microsecond number none some = omega arith
none_of Millisecond number none some = omega arith
none_of Second number none some = omega arith

-- the number of a word that says so is what stands before the unit
pub number_of : (unit : Unit) (word front : List ℕ) (tick : Tick) (is : IsTickIn unit word tick) → word ≡ front ++ unit_word unit → IsDecimal front is.number
number_of unit word front tick is parted =
    let few = is.high in
    let same = is.lasts in
    let more = at_least unit is.number in
    record {
      written = append_cancel_right (decimal is.number) front (unit_word unit) (is.written ∙ parted);
      low = omega arith;
    }

-- a word says so where it has such a number
pub tick_if : (unit : Unit) (word front : List ℕ) (number : ℕ) (tick : Tick) → word ≡ front ++ unit_word unit → IsDecimal front number → 0 < number
    → tick.microseconds ≡ number * unit_length unit → tick.microseconds ≤ 1000000 → IsTickIn unit word tick
tick_if unit word front number tick parted is some lasts high =
    let more = at_least unit number in
    record { number = number; written = ap (λ l. l ++ unit_word unit) is.written ∙ sym parted; lasts = lasts; low = omega arith; high = high }

-- it says nothing where its number is out of range
pub out_of_range : (unit : Unit) (word front : List ℕ) (number : ℕ) (tick : Tick) → word ≡ front ++ unit_word unit → IsDecimal front number → ¬ ((1 ≤ number * unit_length unit) × (number * unit_length unit ≤ 1000000)) → ¬ (IsTickIn unit word tick)
out_of_range unit word front number tick parted is out told =
    let same : told.number ≡ number = same_number front told.number number (number_of unit word front tick told parted) is in
    let lasts : tick.microseconds ≡ number * unit_length unit = told.lasts ∙ ap (λ n. n * unit_length unit) same in
    out (subst (λ n. 1 ≤ n) lasts told.low, subst (λ n. n ≤ 1000000) lasts told.high)

-- a word that says so in none of the units says nothing
pub in_none : (word : List ℕ) (tick : Tick) → ¬ (IsTickIn Microsecond word tick) → ¬ (IsTickIn Millisecond word tick) → ¬ (IsTickIn Second word tick) → ¬ (IsTickWord word tick)
in_none word tick a b c (Microsecond, is) = a is
in_none word tick a b c (Millisecond, is) = b is
in_none word tick a b c (Second, is) = c is

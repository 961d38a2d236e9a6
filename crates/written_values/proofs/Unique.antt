-- A word says one number of ticks and one share, so a range that doesn't hold it holds none.
use Rattle.std.proofs.Common.{◌≡◌, ◌<◌, ◌≤◌, ℕ, ◌*◌, ◌/◌, ◌&&◌, Bool, true, false, List, nat_le, refl, ap, sym, subst, ◌∙◌, arith}
use Rattle.std.proofs.Math.Nat.{mul-div_cancel}
use Rattle.std.proofs.lemmas.Bool.Decides.{nat_tests}
use Rattle.lengths.specs.Lengths.{AreTicks, IsPartTick, IsShare}
use Rattle.lengths.proofs.Parts.{same_length, same_share}

same_count : (a b k : ℕ) → 0 < k → a * k ≡ b * k → a ≡ b
same_count a b k some same = sym (mul-div_cancel a some) ∙ ap (λ n. n / k) same ∙ mul-div_cancel b some

pub same_ticks : (tick : ℕ) (word : List ℕ) (a b : ℕ) → 1 ≤ tick → AreTicks tick word a → AreTicks tick word b → a ≡ b
same_ticks tick word a b some first second = same_count a b (tick * 1000000) (omega arith) (same_length word (a * (tick * 1000000)) (b * (tick * 1000000)) first second)

within_by : (least n most : ℕ) (p q : Bool) → nat_le least n ≡ p → nat_le n most ≡ q → (p && q) ≡ false → least ≤ n → ¬ (n ≤ most)
within_by least n most true true a b outside low = λ high. cc
within_by least n most true false a b outside low = λ high. grind (arith, nat_tests)
within_by least n most false q a b outside low = λ high. grind (arith, nat_tests)

-- a number outside the range
pub not_within : (least n most : ℕ) → (nat_le least n && nat_le n most) ≡ false → least ≤ n → ¬ (n ≤ most)
not_within least n most outside low = within_by least n most (nat_le least n) (nat_le n most) refl refl outside low

-- no other number of ticks is in the range either
pub none_within : (tick : ℕ) (word : List ℕ) (ticks least most : ℕ) → 1 ≤ tick → AreTicks tick word ticks → (nat_le least ticks && nat_le ticks most) ≡ false
    → (number : ℕ) → AreTicks tick word number → least ≤ number → ¬ (number ≤ most)
none_within tick word ticks least most some is outside number other low =
    let same = same_ticks tick word ticks number some is other in
    not_within least number most (subst (λ (n : ℕ). (nat_le least n && nat_le n most) ≡ false) same outside) low

-- what is no whole number of ticks is none
pub none_whole : (tick : ℕ) (word : List ℕ) → IsPartTick tick word → (number : ℕ) → ¬ (AreTicks tick word number)
none_whole tick word part number whole = part.not_whole number (same_length word part.total (number * (tick * 1000000)) part.is whole)

pub none_shared : (word : List ℕ) (parts : ℕ) → IsShare word parts → ¬ (parts ≤ 1000000) → (number : ℕ) → IsShare word number → ¬ (number ≤ 1000000)
none_shared word parts is outside number other = λ high. outside (subst (λ (n : ℕ). n ≤ 1000000) (sym (same_share word parts number is other)) high)

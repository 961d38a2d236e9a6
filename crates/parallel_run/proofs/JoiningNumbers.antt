-- Things that have the numbers below a count, each once, and one more of them.
use Rattle.std.proofs.Common.{◌≡◌, ◌≢◌, ℕ, ◌+◌, ◌<◌, List, [], ◌∷◌, ◌++◌, inl, inr, arith}
use Rattle.std.proofs.lemmas.Bool.{cases_lt}
use Rattle.std.specs.List.{AllByRecursion}
use Rattle.base.specs.Rising.{IsRising}
use Rattle.base.proofs.Rising.{all_append, all_weaker, rising_append}
use Rattle.lookahead_windows.specs.Messages.{IsOneOf}

module _ {X : Type 0} (number : X → ℕ) where
  -- the numbers below the count
  pub record HaveNumbersBelow (count : ℕ) (xs : List X) : Type 0 where
    pub below : AllByRecursion (λ x. number x < count) xs
    pub different : IsRising (λ x y. number x ≢ number y) xs
    pub complete : (n : ℕ) → n < count → IsOneOf number xs n

  -- none has the numbers below 0
  pub no_numbers : HaveNumbersBelow 0 []
  no_numbers = record { below = tt; different = tt; complete = λ n low. absurd (omega arith) }

  -- who has a number has it among more too
  pub one_before : (xs : List X) (x : X) (n : ℕ) → IsOneOf number xs n → IsOneOf number (xs ++ x ∷ []) n
  one_before [] x n is = absurd is
  one_before (y ∷ xs) x n (inl same) = inl same
  one_before (y ∷ xs) x n (inr more) = inr (one_before xs x n more)

  -- the last one has its number
  pub one_last : (xs : List X) (x : X) (n : ℕ) → number x ≡ n → IsOneOf number (xs ++ x ∷ []) n
  one_last [] x n is = inl is
  one_last (y ∷ xs) x n is = inr (one_last xs x n is)

  -- one more has the next number
  pub one_more_number : (count : ℕ) (xs : List X) (x : X) → HaveNumbersBelow count xs → number x ≡ count → HaveNumbersBelow (count + 1) (xs ++ x ∷ [])
  one_more_number count xs x have is = record {
    below = all_append (λ y. number y < count + 1) xs (x ∷ []) (all_weaker (λ y. number y < count) (λ y. number y < count + 1) (λ y low. omega arith) xs have.below) (omega arith, tt);
    different =
        rising_append (λ y z. number y ≢ number z) xs (x ∷ []) have.different (tt, tt)
        (all_weaker (λ y. number y < count) (λ y. AllByRecursion (λ z. number y ≢ number z) (x ∷ [])) (λ y low. ((λ same. omega arith), tt)) xs have.below);
    complete = λ n low. elim (cases_lt n count) [ inl before ↦ one_before xs x n (have.complete n before) | inr past ↦ one_last xs x n (omega arith) ];
  }

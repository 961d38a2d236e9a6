-- The first items of a list.
use Rattle.std.proofs.Common.{◌≡◌, ℕ, List, length, take, min, inl, inr, sym, ◌∙◌, ap, arith}
use Rattle.std.proofs.lemmas.Bool.{cases_lt}
use Rattle.std.proofs.lemmas.List.{take_all}

-- the first so many, or all where they are fewer
pub firsts : {A : Type 0} (xs : List A) (n end : ℕ) → end ≡ min n (length xs) → take end xs ≡ take n xs
firsts xs n end is =
    elim (cases_lt n (length xs)) as (λ _. take end xs ≡ take n xs) [
      | inl within ↦ ap (λ k. take k xs) (omega (arith, is, within))
      | inr past ↦ take_all end xs (omega (arith, is, past)) ∙ sym (take_all n xs past)
    ]

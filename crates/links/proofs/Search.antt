-- A search for the least delay, one member further.
use Rattle.std.proofs.Common.{◌≡◌, ℕ, ◌+◌, ◌<◌, ◌≤◌, inl, inr, Bool, true, false, Option, Some, None, min, refl, sym, ap, ◌∙◌, subst, arith}
use Rattle.std.proofs.lemmas.Bool.{cases_lt, false≢true}
use Rattle.links.specs.Least.{IsLeastFrom, IsLeastBelow, lesser_of}

no_less : (n : ℕ) → n ≤ n
no_less n = omega arith

module _ (takes : ℕ → Bool) (delay : ℕ → ℕ) where
  pub left_out : (k : ℕ) (least : Option ℕ) → IsLeastFrom takes delay k least → takes k ≡ false → IsLeastFrom takes delay (k + 1) least
  left_out k None before isnt = λ j below. elim (cases_lt j k) as (λ _. takes j ≡ false) [
    | inl a ↦ before j a
    | inr b ↦ (let same : j ≡ k = omega (arith, below, b) in ap takes same ∙ isnt)
  ]
  left_out k (Some d) (reached, fewer) isnt = (
    (reached.0, omega (arith, reached.1), reached.2, reached.3),
    λ j below is. elim (cases_lt j k) as (λ _. d ≤ delay j) [
      | inl a ↦ fewer j a is
      | inr b ↦ (let same : j ≡ k = omega (arith, below, b) in absurd (false≢true (sym isnt ∙ ap takes (sym same) ∙ is)))
    ],
  )

  pub taken : (k : ℕ) (least : Option ℕ) → IsLeastFrom takes delay k least → takes k ≡ true → IsLeastFrom takes delay (k + 1) (lesser_of least (Some (delay k)))
  taken k None before is_so = (
    (k, omega arith, is_so, refl),
    λ j below is. elim (cases_lt j k) as (λ _. delay k ≤ delay j) [
      | inl a ↦ absurd (false≢true (sym (before j a) ∙ is))
      | inr b ↦ (let same : j ≡ k = omega (arith, below, b) in subst (λ x. delay k ≤ delay x) (sym same) (no_less (delay k)))
    ],
  )
  taken k (Some d) (reached, fewer) is_so = (
    elim (cases_lt (delay k) d) as (λ _. (j : ℕ) × (j < k + 1) × (takes j ≡ true) × (delay j ≡ min d (delay k))) [
      | inl a ↦ (k, omega arith, is_so, omega (arith, a))
      | inr b ↦ (reached.0, omega (arith, reached.1), reached.2, omega (arith, reached.3, b))
    ],
    λ j below is. elim (cases_lt j k) as (λ _. min d (delay k) ≤ delay j) [
      | inl a ↦ omega (arith, fewer j a is)
      | inr b ↦ (let same : j ≡ k = omega (arith, below, b) in subst (λ x. min d (delay k) ≤ delay x) (sym same) (omega arith))
    ],
  )

module _ (passed : ℕ → Bool) (takes : ℕ → ℕ → Bool) (delay : ℕ → ℕ → ℕ) (n : ℕ) where
  pub passed_over : (k : ℕ) (least : Option ℕ) → IsLeastBelow passed takes delay n k least → passed k ≡ true → IsLeastBelow passed takes delay n (k + 1) least
  passed_over k None before is_so = λ i j below kept within. elim (cases_lt i k) as (λ _. takes i j ≡ false) [
    | inl a ↦ before i j a kept within
    | inr b ↦ (let same : i ≡ k = omega (arith, below, b) in absurd (false≢true (sym kept ∙ ap passed same ∙ is_so)))
  ]
  passed_over k (Some d) (reached, fewer) is_so = (
    (reached.0, reached.1, omega (arith, reached.2), reached.3, reached.4, reached.5),
    λ i j below kept within is. elim (cases_lt i k) as (λ _. d ≤ delay i j) [
      | inl a ↦ fewer i j a kept within is
      | inr b ↦ (let same : i ≡ k = omega (arith, below, b) in absurd (false≢true (sym kept ∙ ap passed same ∙ is_so)))
    ],
  )

  -- what is taken for a member is taken for the same member by its other name
  for_same : (i j k : ℕ) → i ≡ k → takes i j ≡ true → takes k j ≡ true
  for_same i j k same is = ap (λ x. takes x j) (sym same) ∙ is

  pub gone_on : (k : ℕ) (least from : Option ℕ) → IsLeastBelow passed takes delay n k least → IsLeastFrom (takes k) (delay k) n from → IsLeastBelow passed takes delay n (k + 1) (lesser_of least from)
  gone_on k None None before nobody = λ i j below kept within. elim (cases_lt i k) as (λ _. takes i j ≡ false) [
    | inl a ↦ before i j a kept within
    | inr b ↦ (let same : i ≡ k = omega (arith, below, b) in ap (λ x. takes x j) same ∙ nobody j within)
  ]
  gone_on k None (Some e) before (here, few) = (
    (k, here.0, omega arith, here.1, here.2, here.3),
    λ i j below kept within is. elim (cases_lt i k) as (λ _. e ≤ delay i j) [
      | inl a ↦ absurd (false≢true (sym (before i j a kept within) ∙ is))
      | inr b ↦ (let same : i ≡ k = omega (arith, below, b) in subst (λ x. e ≤ delay x j) (sym same) (few j within (for_same i j k same is)))
    ],
  )
  gone_on k (Some d) None (reached, fewer) nobody = (
    (reached.0, reached.1, omega (arith, reached.2), reached.3, reached.4, reached.5),
    λ i j below kept within is. elim (cases_lt i k) as (λ _. d ≤ delay i j) [
      | inl a ↦ fewer i j a kept within is
      | inr b ↦ (let same : i ≡ k = omega (arith, below, b) in absurd (false≢true (sym (nobody j within) ∙ for_same i j k same is)))
    ],
  )
  gone_on k (Some d) (Some e) (reached, fewer) (here, few) = (
    elim (cases_lt e d) as (λ _. (i : ℕ) × (j : ℕ) × (i < k + 1) × (j < n) × (takes i j ≡ true) × (delay i j ≡ min d e)) [
      | inl a ↦ (k, here.0, omega arith, here.1, here.2, omega (arith, here.3, a))
      | inr b ↦ (reached.0, reached.1, omega (arith, reached.2), reached.3, reached.4, omega (arith, reached.5, b))
    ],
    λ i j below kept within is. elim (cases_lt i k) as (λ _. min d e ≤ delay i j) [
      | inl a ↦ omega (arith, fewer i j a kept within is)
      | inr b ↦ (let same : i ≡ k = omega (arith, below, b) in subst (λ x. min d e ≤ delay x j) (sym same) (omega (arith, few j within (for_same i j k same is))))
    ],
  )

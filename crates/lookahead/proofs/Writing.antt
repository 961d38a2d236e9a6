-- A table in which the length of two parts is written.
use Rattle.std.proofs.Common.{◌≡◌, ℕ, ◌<◌, ◌⊎◌, inl, inr, List, Option, sym, subst}
use Rattle.std.proofs.lemmas.Bool.{cases_eq}
use Rattle.lookahead.specs.Lengths.{length_at}

-- it has this length there, and the old ones elsewhere
pub record IsWritten (from to : ℕ) (length : Option ℕ) (old new : List (Option ℕ)) : Type 0 where
  pub here : length_at new from to ≡ length
  pub others : (p q : ℕ) → q < 64 → ¬ ((p ≡ from) × (q ≡ to)) → length_at new p q ≡ length_at old p q

module _ (from to : ℕ) (length : Option ℕ) (old new : List (Option ℕ)) (written : IsWritten from to length old new) where
  -- the place that was written, or another one that is as it was
  abbrev Told : ℕ → ℕ → Type 0
  Told p q = ((p ≡ from) × (q ≡ to)) ⊎ (length_at new p q ≡ length_at old p q)

  told : (p q : ℕ) → q < 64 → Told p q
  told p q below = elim (cases_eq p from) as (λ _. Told p q) [
    | inl a ↦ elim (cases_eq q to) as (λ _. Told p q) [
      | inl b ↦ inl (a, b)
      | inr b ↦ inr (written.others p q below (λ both. b both.1))
    ]
    | inr a ↦ inr (written.others p q below (λ both. a both.0))
  ]

  -- what holds of the length that was written, and of each of the old ones, holds of all
  pub at_each : (P : ℕ → ℕ → Option ℕ → Type 0) → P from to length → ((p q : ℕ) → q < 64 → P p q (length_at old p q)) → (p q : ℕ) → q < 64 → P p q (length_at new p q)
  at_each P is stood p q below = elim (told p q below) as (λ _. P p q (length_at new p q)) [
    | inl both ↦ subst (λ x. P x q (length_at new x q)) (sym both.0) (subst (λ y. P from y (length_at new from y)) (sym both.1) (subst (P from to) (sym written.here) is))
    | inr same ↦ subst (P p q) (sym same) (stood p q below)
  ]

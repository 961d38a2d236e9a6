-- A search for the greatest time, one member further.
use Rattle.std.proofs.Common.{◌≡◌, ℕ, ◌+◌, ◌<◌, ◌≤◌, inl, inr, max, sym, ◌∙◌, subst, arith}
use Rattle.std.proofs.lemmas.Bool.{cases_lt}
use Rattle.meaning.specs.Trips.{IsGreatest, IsGreatestFrom, IsGreatestBelow}

module _ (trip : ℕ → ℕ) (from : ℕ) where
  pub none_yet : IsGreatestFrom trip from 0 0
  none_yet = record { no_greater = λ j below _. absurd (omega (arith, below)); reached = λ some. absurd (omega (arith, some)) }

  -- the sender itself is passed over
  pub passed_over : (k g : ℕ) → IsGreatestFrom trip from k g → k ≡ from → IsGreatestFrom trip from (k + 1) g
  passed_over k g old same = record {
    no_greater = λ j below other. elim (cases_lt j k) as (λ _. trip j ≤ g) [
      | inl a ↦ old.no_greater j a other
      | inr b ↦ absurd (other (omega (arith, below, b, same)))
    ];
    reached = λ some. let r = old.reached some in (r.0, omega (arith, r.1), r.2, r.3);
  }

  pub taken : (k g : ℕ) → IsGreatestFrom trip from k g → ¬ (k ≡ from) → IsGreatestFrom trip from (k + 1) (max (trip k) g)
  taken k g old different = record {
    no_greater = λ j below other. elim (cases_lt j k) as (λ _. trip j ≤ max (trip k) g) [
      | inl a ↦ omega (arith, old.no_greater j a other)
      | inr b ↦ (let same : j ≡ k = omega (arith, below, b) in subst (λ x. trip x ≤ max (trip k) g) (sym same) (omega arith))
    ];
    reached = λ some. elim (cases_lt g (trip k)) as (λ _. (j : ℕ) × (j < k + 1) × (¬ (j ≡ from)) × (trip j ≡ max (trip k) g)) [
      | inl a ↦ (k, omega arith, different, omega (arith, a))
      | inr b ↦ (let r = old.reached (omega (arith, some, b)) in (r.0, omega (arith, r.1), r.2, omega (arith, r.3, b)))
    ];
  }

module _ (trip : ℕ → ℕ → ℕ) (n : ℕ) where
  pub nobody_yet : IsGreatestBelow trip n 0 0
  nobody_yet = record { no_greater = λ i j below _ _. absurd (omega (arith, below)); reached = λ some. absurd (omega (arith, some)) }

  pub one_sender_more : (k g h : ℕ) → IsGreatestBelow trip n k g → IsGreatestFrom (trip k) k n h → IsGreatestBelow trip n (k + 1) (max h g)
  one_sender_more k g h old from = record {
    no_greater = λ i j below within other. elim (cases_lt i k) as (λ _. trip i j ≤ max h g) [
      | inl a ↦ omega (arith, old.no_greater i j a within other)
      | inr b ↦ (let same : i ≡ k = omega (arith, below, b) in
          subst (λ x. trip x j ≤ max h g) (sym same) (omega (arith, from.no_greater j within (λ e. other (e ∙ sym same)))))
    ];
    reached = λ some. elim (cases_lt g h) as (λ _. (i : ℕ) × (j : ℕ) × (i < k + 1) × (j < n) × (¬ (j ≡ i)) × (trip i j ≡ max h g)) [
      | inl a ↦ (let r = from.reached (omega (arith, a)) in (k, r.0, omega arith, r.1, r.2, omega (arith, r.3, a)))
      | inr b ↦ (let r = old.reached (omega (arith, some, b)) in (r.0, r.1, omega (arith, r.2), r.3, r.4, omega (arith, r.5, b)))
    ];
  }

  pub all_pairs : (k g : ℕ) → IsGreatestBelow trip n k g → k ≡ n → IsGreatest trip n g
  all_pairs k g below all = record {
    no_greater = λ i j apart. below.no_greater i j (omega (arith, all, apart.sender)) apart.receiver (λ e. apart.different (sym e));
    reached = λ some. let r = below.reached some in (r.0, r.1, record { sender = omega (arith, all, r.2); receiver = r.3; different = λ e. r.4 (sym e) }, r.5);
  }

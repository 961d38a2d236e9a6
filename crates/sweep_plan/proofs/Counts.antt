-- Counting settings and runs in numbers that stop at a greatest one.
use Rattle.std.proofs.Common.{◌≡◌, ◌<◌, ◌≤◌, ◌+◌, ◌*◌, ℕ, zero, suc, List, min, drop, length, get_or, sym, ap, ◌∙◌, inl, inr, arith}
use Rattle.std.proofs.Math.Nat.{mul-zero, mul_assoc, le-mul_of_pos_right}
use Rattle.std.proofs.lemmas.Bool.{cases_lt}
use Rattle.std.proofs.lemmas.List.{drop_more}
use Rattle.sweep_plan.specs.Sweep.{KeyValues, setting_count, choice_count}

-- a product that stops where its first factor does
pub saturated : (a b most : ℕ) → min (min a most * b) most ≡ min (a * b) most
saturated a zero most = rw (mul-zero a, mul-zero (min a most))
saturated a (suc b) most =
    elim (cases_lt most a) as (λ _. min (min a most * suc b) most ≡ min (a * suc b) most) [
      | inl over ↦
          let low : most ≤ a * suc b = let own : a ≤ a * suc b = le-mul_of_pos_right a (omega arith) in omega arith in
          let stops : min a most ≡ most = omega arith in
          let high : most ≤ most * suc b = le-mul_of_pos_right most (omega arith) in
          ap (λ n. min (n * suc b) most) stops ∙ omega arith
      | inr under ↦ ap (λ n. min (n * suc b) most) (omega arith)
    ]

-- one swept key more
pub counted_more : (swept_keys : List KeyValues) (i : ℕ) (d : KeyValues) (settings most n next : ℕ) → i < length swept_keys → n ≡ choice_count (get_or swept_keys i d) → next ≡ min (settings * n) most
    → min (settings * setting_count (drop i swept_keys)) most ≡ min (setting_count swept_keys) most → min (next * setting_count (drop (i + 1) swept_keys)) most ≡ min (setting_count swept_keys) most
counted_more swept_keys i d settings most n next inside is capped before =
    let rest = setting_count (drop (i + 1) swept_keys) in
    ap (λ m. min (m * rest) most) capped
    ∙ saturated (settings * n) rest most
    ∙ ap (λ m. min m most) (mul_assoc settings n rest)
    ∙ ap (λ m. min (settings * (m * rest)) most) is
    ∙ ap (λ left. min (settings * setting_count left) most) (sym (drop_more swept_keys i d inside))
    ∙ before

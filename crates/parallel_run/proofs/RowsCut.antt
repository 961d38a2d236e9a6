-- Rows in the order of their moments, cut at one.
use Rattle.std.proofs.Common.{ℕ, zero, suc, ◌<◌, ◌≤◌, List, [], ◌∷◌, length, get_or, take, drop, arith}
use Rattle.std.specs.List.{AllByRecursion}
use Rattle.std.specs.List.Sorted.{IsNonDecreasingBy}
use Rattle.base.specs.Rising.{IsRising}
use Rattle.trace.specs.declared.row.Row.{Row}

module _ (P : Row → Type 0) where
  -- what holds of all holds at each place
  here_too : (rows : List Row) (j : ℕ) (d : Row) → AllByRecursion P rows → j < length rows → P (get_or rows j d)
  here_too [] j d all low = absurd (omega arith)
  here_too (x ∷ rows) zero d all low = all.0
  here_too (x ∷ rows) (suc j) d all low = here_too rows j d all.1 (omega arith)

  -- what holds at each place before one holds of all up to there
  pub front_of : (rows : List Row) (i : ℕ) → i ≤ length rows → ((k : ℕ) (d : Row) → k < i → P (get_or rows k d)) → AllByRecursion P (take i rows)
  front_of [] zero low each = tt
  front_of [] (suc i) low each = absurd (omega arith)
  front_of (x ∷ rows) zero low each = tt
  front_of (x ∷ rows) (suc i) low each = (each 0 x (omega arith), front_of rows i (omega arith) (λ k d less. each (suc k) d (omega arith)))

  -- and from one on of all from there
  pub back_of : (rows : List Row) (i : ℕ) → ((k : ℕ) (d : Row) → i ≤ k → k < length rows → P (get_or rows k d)) → AllByRecursion P (drop i rows)
  back_of [] zero each = tt
  back_of [] (suc i) each = tt
  back_of (x ∷ rows) zero each = (each 0 x (omega arith) (omega arith), back_of rows zero (λ k d from low. each (suc k) d (omega arith) (omega arith)))
  back_of (x ∷ rows) (suc i) each = back_of rows i (λ k d from low. each (suc k) d (omega arith) (omega arith))

-- of any two the one that stands first is no later
pub rise_by_place : (rows : List Row) → IsRising (λ (a b : Row). a.at ≤ b.at) rows → IsNonDecreasingBy (λ (row : Row). row.at) rows
rise_by_place [] up i j d le low = absurd (omega arith)
rise_by_place (x ∷ rows) up zero zero d le low = omega arith
rise_by_place (x ∷ rows) up zero (suc j) d le low = here_too (λ y. x.at ≤ y.at) rows j d up.0 (omega arith)
rise_by_place (x ∷ rows) up (suc i) zero d le low = absurd (omega arith)
rise_by_place (x ∷ rows) up (suc i) (suc j) d le low = rise_by_place rows up.1 i j d (omega arith) (omega arith)

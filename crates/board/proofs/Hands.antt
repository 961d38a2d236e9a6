-- The records of all seats, of which one changes, or one has every share.
use Rattle.std.proofs.Common.{◌≡◌, ◌≢◌, ℕ, zero, suc, ◌+◌, ◌≤◌, List, [], ◌∷◌, ◌++◌, set, sym, refl, ap, ◌∙◌, arith, append-nil}
use mathlib.Core.Option.{some, some-injective, some-ne-none}
use lib.ListN.{get_elem?}
use Rattle.std.specs.List.{sum_by, flat_map}
use Rattle.std.proofs.lemmas.List.Concat.{flat_map-append}
use Rattle.std.proofs.lemmas.List.Sums.{sum_by-cons, sum_by-append}

module _ {A : Type 0} where
  -- a total after a change of one
  pub total_set : (f : A → ℕ) (xs : List A) (n : ℕ) (v w : A) → get_elem? xs n ≡ some v → sum_by f (set xs n w) + f v ≡ sum_by f xs + f w
  total_set f [] n v w e = absurd (some-ne-none v (sym e))
  total_set f (x ∷ xs) zero v w e = omega (arith, sum_by-cons f w xs, sum_by-cons f x xs, ap f (some-injective x v e))
  total_set f (x ∷ xs) (suc n) v w e = omega (arith, total_set f xs n v w e, sum_by-cons f x xs, sum_by-cons f x (set xs n w))

  -- one of them is at most the total
  at_most : (f : A → ℕ) (xs : List A) (n : ℕ) (v : A) → get_elem? xs n ≡ some v → f v ≤ sum_by f xs
  at_most f [] n v e = absurd (some-ne-none v (sym e))
  at_most f (x ∷ xs) zero v e = omega (arith, sum_by-cons f x xs, ap f (some-injective x v e))
  at_most f (x ∷ xs) (suc n) v e = omega (arith, sum_by-cons f x xs, at_most f xs n v e)

  -- and so are two
  pub two_at_most : (f : A → ℕ) (xs : List A) (n j : ℕ) (v u : A) → get_elem? xs n ≡ some v → get_elem? xs j ≡ some u → j ≢ n → f v + f u ≤ sum_by f xs
  two_at_most f [] n j v u e e' apart = absurd (some-ne-none v (sym e))
  two_at_most f (x ∷ xs) zero zero v u e e' apart = absurd (apart refl)
  two_at_most f (x ∷ xs) zero (suc j) v u e e' apart = omega (arith, sum_by-cons f x xs, ap f (some-injective x v e), at_most f xs j u e')
  two_at_most f (x ∷ xs) (suc n) zero v u e e' apart = omega (arith, sum_by-cons f x xs, ap f (some-injective x u e'), at_most f xs n v e)
  two_at_most f (x ∷ xs) (suc n) (suc j) v u e e' apart = omega (arith, sum_by-cons f x xs, two_at_most f xs n j v u e e' (λ same. apart (ap suc same)))

module _ {A B : Type 0} where
  pub sum_by-flat_map : (h : B → ℕ) (f : A → List B) (xs : List A) → sum_by h (flat_map f xs) ≡ sum_by (λ x. sum_by h (f x)) xs
  sum_by-flat_map h f [] = refl
  sum_by-flat_map h f (x ∷ xs) = omega (arith, sum_by-append h (f x) (flat_map f xs), sum_by-cons (λ y. sum_by h (f y)) x xs, sum_by-flat_map h f xs)

  -- what all have together, after a change of one
  pub weight_set : (h : B → ℕ) (f : A → List B) (xs : List A) (n : ℕ) (v w : A) → get_elem? xs n ≡ some v
      → sum_by h (flat_map f (set xs n w)) + sum_by h (f v) ≡ sum_by h (flat_map f xs) + sum_by h (f w)
  weight_set h f xs n v w e = omega (arith, total_set (λ x. sum_by h (f x)) xs n v w e, sum_by-flat_map h f xs, sum_by-flat_map h f (set xs n w))

  nothing : (f : A → List B) (xs : List A) → ((j : ℕ) (u : A) → get_elem? xs j ≡ some u → f u ≡ []) → flat_map f xs ≡ []
  nothing f [] none = refl
  nothing f (x ∷ xs) none = ap (λ l. l ++ flat_map f xs) (none 0 x refl) ∙ nothing f xs (λ j u e. none (suc j) u e)

  -- where all others have nothing, one has what all have together
  pub alone : (f : A → List B) (xs : List A) (n : ℕ) (v : A) → get_elem? xs n ≡ some v → ((j : ℕ) (u : A) → j ≢ n → get_elem? xs j ≡ some u → f u ≡ []) → flat_map f xs ≡ f v
  alone f [] n v e none = absurd (some-ne-none v (sym e))
  alone f (x ∷ xs) zero v e none =
      ap (λ l. f x ++ l) (nothing f xs (λ j u e'. none (suc j) u (λ same. omega arith) e')) ∙ (append-nil (f x) ∙ ap f (some-injective x v e))
  alone f (x ∷ xs) (suc n) v e none =
      ap (λ l. l ++ flat_map f xs) (none 0 x (λ same. omega arith) refl) ∙ alone f xs n v e (λ j u apart e'. none (suc j) u (λ same. apart (omega arith)) e')

  -- the last one's at the end
  pub flat_last : (f : A → List B) (xs : List A) (x : A) → flat_map f (xs ++ x ∷ []) ≡ flat_map f xs ++ f x
  flat_last f xs x = flat_map-append f xs (x ∷ []) ∙ ap (λ l. flat_map f xs ++ l) (append-nil (f x))

  -- the last one's may go behind others
  pub weight_moved : (h : B → ℕ) (f : A → List B) (xs : List A) (x : A) (ys : List B) → sum_by h (flat_map f xs ++ (ys ++ f x)) ≡ sum_by h (flat_map f (xs ++ x ∷ []) ++ ys)
  weight_moved h f xs x ys =
      omega (
        arith,
        sum_by-append h (flat_map f xs) (ys ++ f x),
        sum_by-append h ys (f x),
        sum_by-append h (flat_map f (xs ++ x ∷ [])) ys,
        sum_by-append h (flat_map f xs) (f x),
        ap (sum_by h) (flat_last f xs x),
      )

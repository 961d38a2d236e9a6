-- The rows of one member among rows that were sorted.
use Rattle.std.proofs.Common.{◌≡◌, ℕ, ◌+◌, Bool, true, false, cond, List, [], ◌∷◌, ap, ◌∙◌, sym, refl, arith}
use Rattle.std.specs.List.{AllByRecursion, filter, sum_by}
use Rattle.std.specs.List.Sorted.{IsPermutation, IsSorted}
use Rattle.std.specs.Cmp.{IsTotalOrder}
use Rattle.std.specs.declared.cmp.Ordering.{Ordering}
use Rattle.std.proofs.lemmas.Bool.{false≢true}
use Rattle.std.proofs.lemmas.List.Sums.{sum_by-cons}
use Rattle.std.proofs.lemmas.List.Elements.{recursion_from_All, All-from_recursion}
use Rattle.std.proofs.lemmas.List.Sorted.{All-permutation, sum_by-IsPermutation}
use Rattle.base.specs.Rising.{IsRising}
use Rattle.base.proofs.Rising.{all_weaker}
use Rattle.windows.proofs.Cuts.{all_kept}
use Rattle.windows.proofs.Numbers.{rising_kept}
use Rattle.windows.proofs.Sorting.{IsAtMost, IsLess, Tells, tells_itself, same_order, rising_from_sorted}

module _ {A : Type 0} (test : A → Bool) where
  -- what holds of all that is kept holds of each that passes
  passing_either : (P : A → Type 0) (x : A) (xs : List A) (b : Bool) → test x ≡ b → AllByRecursion P (cond b (x ∷ filter test xs) (filter test xs))
      → (test x ≡ true → P x) × AllByRecursion P (filter test xs)
  passing_either P x xs true e all = (λ passes. all.0, all.1)
  passing_either P x xs false e all = (λ passes. absurd (false≢true (sym e ∙ passes)), all)

  all_passing : (P : A → Type 0) (xs : List A) → AllByRecursion P (filter test xs) → AllByRecursion (λ x. test x ≡ true → P x) xs
  all_passing P [] all = tt
  all_passing P (x ∷ xs) all = let both = passing_either P x xs (test x) refl all in (both.0, all_passing P xs both.1)

  sum_either : (f : A → ℕ) (x : A) (xs : List A) (b : Bool) → sum_by f (filter test xs) ≡ sum_by (λ y. cond (test y) (f y) 0) xs
      → sum_by f (cond b (x ∷ filter test xs) (filter test xs)) ≡ cond b (f x) 0 + sum_by (λ y. cond (test y) (f y) 0) xs
  sum_either f x xs true rest = sum_by-cons f x (filter test xs) ∙ ap (λ n. f x + n) rest
  sum_either f x xs false rest = omega (arith, rest)

  sum_kept : (f : A → ℕ) (xs : List A) → sum_by f (filter test xs) ≡ sum_by (λ x. cond (test x) (f x) 0) xs
  sum_kept f [] = refl
  sum_kept f (x ∷ xs) = sum_either f x xs (test x) (sum_kept f xs) ∙ sym (sum_by-cons (λ y. cond (test y) (f y) 0) x xs)

  module _ (cmp : A → A → Ordering) (total : IsTotalOrder cmp) where
    -- items that rise, of those that are kept, stay as they are where all are sorted
    pub kept_sorted : (xs ys : List A) → IsRising (IsLess cmp) (filter test xs) → IsPermutation xs ys → IsSorted cmp ys → filter test ys ≡ filter test xs
    kept_sorted xs ys strict same up =
        let among = All-permutation (λ x. test x ≡ true → Tells cmp total (filter test xs) x) xs ys same
        (All-from_recursion (λ x. test x ≡ true → Tells cmp total (filter test xs) x) xs (all_passing (Tells cmp total (filter test xs)) xs (tells_itself cmp total (filter test xs) strict))) in
        let kept = all_kept test (λ x. test x ≡ true → Tells cmp total (filter test xs) x) ys (recursion_from_All (λ x. test x ≡ true → Tells cmp total (filter test xs) x) ys among) in
        same_order cmp total (filter test xs) (filter test ys) strict (rising_kept (IsAtMost cmp) test ys (rising_from_sorted cmp total ys up))
        (λ f. sum_kept f ys ∙ sum_by-IsPermutation (λ x. cond (test x) (f x) 0) xs ys same ∙ sym (sum_kept f xs))
        (all_weaker _ (Tells cmp total (filter test xs)) (λ x h. h.1 h.0) (filter test ys) kept)

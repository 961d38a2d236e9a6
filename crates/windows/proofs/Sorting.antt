-- A list that rises strictly is the one sorted order of its items.
use Rattle.std.proofs.Common.{◌≡◌, ℕ, suc, ◌+◌, false, cond, List, [], ◌∷◌, get_or, ap, ◌∙◌, sym, subst, refl, arith}
use Rattle.std.specs.List.{AllByRecursion, sum_by}
use Rattle.std.specs.List.Sorted.{IsPermutation, IsSorted}
use Rattle.std.specs.Ordering.{is_lt, ordering_reverse}
use Rattle.std.specs.Cmp.{IsTotalOrder, tied_itself, tied_back}
use Rattle.std.specs.declared.cmp.Ordering.{Ordering}
use Rattle.std.specs.declared.cmp.Ordering.TheVariants.{Less, Equal, Greater}
use Rattle.std.proofs.lemmas.Bool.{false≢true}
use Rattle.std.proofs.lemmas.List.Sums.{sum_by-cons}
use Rattle.std.proofs.lemmas.List.Elements.{recursion_from_All, All-from_recursion}
use Rattle.std.proofs.lemmas.List.Sorted.{All-permutation, sum_by-IsPermutation}
use Rattle.base.specs.Rising.{IsRising}
use Rattle.base.proofs.Rising.{all_weaker}

no_item : {A : Type 0} (f : A → ℕ) (xs : List A) → AllByRecursion (λ x. f x ≡ 0) xs → sum_by f xs ≡ 0
no_item f [] none = refl
no_item f (x ∷ xs) none = let e = sum_by-cons f x xs in let first = none.0 in let rest = no_item f xs none.1 in omega arith

module _ {A : Type 0} (cmp : A → A → Ordering) where
  -- the second is not before the first
  abbrev pub IsAtMost : A → A → Type 0
  IsAtMost a b = is_lt (cmp b a) ≡ false

  abbrev pub IsLess : A → A → Type 0
  IsLess a b = cmp a b ≡ Less

module _ {A : Type 0} (cmp : A → A → Ordering) (total : IsTotalOrder cmp) where
  pub by_turn : (a b : A) (o : Ordering) → cmp a b ≡ o → cmp b a ≡ ordering_reverse o
  by_turn a b o e = total.antisymm b a ∙ ap ordering_reverse e

  at_most_by : (a b : A) (o : Ordering) → cmp b a ≡ o → (IsLess cmp b a → ⊥) → is_lt o ≡ false
  at_most_by a b Less e none = absurd (none e)
  at_most_by a b Equal e none = refl
  at_most_by a b Greater e none = refl

  not_less : (a b : A) → IsAtMost cmp a b → IsLess cmp b a → ⊥
  not_less a b low e = false≢true (sym low ∙ ap is_lt e)

  less_or_by : (a b c : A) (o : Ordering) → cmp a c ≡ o → IsLess cmp a b → IsAtMost cmp b c → IsLess cmp a c
  less_or_by a b c Less e less low = e
  less_or_by a b c Equal e less low = absurd (not_less b c low (sym (total.congr a c b e) ∙ less))
  less_or_by a b c Greater e less low = absurd (not_less b c low (total.trans c a b (by_turn a c Greater e) less))

  -- before the one, and so before what the one is not after
  less_or : (a b c : A) → IsLess cmp a b → IsAtMost cmp b c → IsLess cmp a c
  less_or a b c = less_or_by a b c (cmp a c) refl

  at_most_trans : (a b c : A) → IsAtMost cmp a b → IsAtMost cmp b c → IsAtMost cmp a c
  at_most_trans a b c first second = at_most_by a c (cmp c a) refl (λ back. not_less b c second (less_or c a b back first))

  -- ---- in order by places, and from the front

  tail_sorted : (x : A) (xs : List A) → IsSorted cmp (x ∷ xs) → IsSorted cmp xs
  tail_sorted x xs sorted k d low within =
      let e : suc k + 1 ≡ suc (k + 1) = omega arith in
      subst (λ n. is_lt (cmp (get_or (x ∷ xs) n d) (get_or xs k d)) ≡ false) e (sorted (suc k) d (omega arith) (omega arith))

  below_all : (x : A) (xs : List A) → IsSorted cmp (x ∷ xs) → IsRising (IsAtMost cmp) xs → AllByRecursion (IsAtMost cmp x) xs
  below_all x [] sorted up = tt
  below_all x (y ∷ ys) sorted up =
      let first : IsAtMost cmp x y = sorted 0 x (omega arith) (omega arith) in
      (first, all_weaker _ (IsAtMost cmp x) (λ z low. at_most_trans x y z first low) ys up.0)

  pub rising_from_sorted : (xs : List A) → IsSorted cmp xs → IsRising (IsAtMost cmp) xs
  rising_from_sorted [] sorted = tt
  rising_from_sorted (x ∷ xs) sorted = let up = rising_from_sorted xs (tail_sorted x xs sorted) in (below_all x xs sorted up, up)

  -- ---- one order

  -- items that tie with one of these are it
  abbrev pub Tells : List A → A → Type 0
  Tells xs y = AllByRecursion (λ x. cmp y x ≡ Equal → y ≡ x) xs

  apart : (x y : A) → IsLess cmp x y → (cmp x y ≡ Equal → x ≡ y) × (cmp y x ≡ Equal → y ≡ x)
  apart x y less = (λ e. absurd (false≢true (sym (ap is_lt e) ∙ ap is_lt less)), λ e. absurd (false≢true (sym (ap is_lt (tied_back total y x e)) ∙ ap is_lt less)))

  tells_more : (x : A) (xs ys : List A) → AllByRecursion (IsLess cmp x) ys → AllByRecursion (Tells xs) ys → AllByRecursion (Tells (x ∷ xs)) ys
  tells_more x xs [] less all = tt
  tells_more x xs (y ∷ ys) less all = (((apart x y less.0).1, all.0), tells_more x xs ys less.1 all.1)

  pub tells_itself : (xs : List A) → IsRising (IsLess cmp) xs → AllByRecursion (Tells xs) xs
  tells_itself [] up = tt
  tells_itself (x ∷ xs) up = ((λ e. refl, all_weaker _ (λ y. cmp x y ≡ Equal → x ≡ y) (λ y less. (apart x y less).0) xs up.0), tells_more x xs xs up.0 (tells_itself xs up.1))

  -- each item as often in the one as in the other
  abbrev pub SameItems : List A → List A → Type 0
  SameItems xs ys = (f : A → ℕ) → sum_by f ys ≡ sum_by f xs

  before_one : A → A → ℕ
  before_one x z = cond (is_lt (cmp z x)) 1 0

  not_past : A → A → ℕ
  not_past x z = cond (is_lt (cmp x z)) 0 1

  no_less : (x y : A) (xs ys : List A) → AllByRecursion (IsLess cmp x) xs → SameItems (x ∷ xs) (y ∷ ys) → IsLess cmp y x → ⊥
  unfolding before_one
  no_less x y xs ys up same less =
      let one : before_one x y ≡ 1 = ap (λ o. cond (is_lt o) 1 0) less in
      let own : before_one x x ≡ 0 = ap (λ o. cond (is_lt o) 1 0) (tied_itself total x) in
      let none : sum_by (before_one x) xs ≡ 0 = no_item (before_one x) xs (all_weaker _ (λ z. before_one x z ≡ 0) (λ z h. ap (λ o. cond (is_lt o) 1 0) (by_turn x z Less h)) xs up) in
      let there = sum_by-cons (before_one x) y ys in
      let here = sum_by-cons (before_one x) x xs in
      let e = same (before_one x) in
      omega arith

  no_greater : (x y : A) (xs ys : List A) → AllByRecursion (IsAtMost cmp y) ys → SameItems (x ∷ xs) (y ∷ ys) → IsLess cmp x y → ⊥
  unfolding not_past
  no_greater x y xs ys up same less =
      let own : not_past x x ≡ 1 = ap (λ o. cond (is_lt o) 0 1) (tied_itself total x) in
      let past : not_past x y ≡ 0 = ap (λ o. cond (is_lt o) 0 1) less in
      let none : sum_by (not_past x) ys ≡ 0 = no_item (not_past x) ys (all_weaker _ (λ z. not_past x z ≡ 0) (λ z low. ap (λ o. cond (is_lt o) 0 1) (less_or x y z less low)) ys up) in
      let there = sum_by-cons (not_past x) y ys in
      let here = sum_by-cons (not_past x) x xs in
      let e = same (not_past x) in
      omega arith

  rest_same : (x y : A) (xs ys : List A) → y ≡ x → SameItems (x ∷ xs) (y ∷ ys) → SameItems xs ys
  rest_same x y xs ys e same f =
      let first : f y ≡ f x = ap f e in
      let there = sum_by-cons f y ys in
      let here = sum_by-cons f x xs in
      let all = same f in
      omega arith

  lengths_differ : (x : A) (xs : List A) → (sum_by (λ (z : A). 1) (x ∷ xs) ≡ 0) → ⊥
  lengths_differ x xs e = let more = sum_by-cons (λ (z : A). 1) x xs in omega arith

  by_first : (x y : A) (xs ys : List A) → AllByRecursion (IsLess cmp x) xs → AllByRecursion (IsAtMost cmp y) ys → SameItems (x ∷ xs) (y ∷ ys) → Tells (x ∷ xs) y → (SameItems xs ys → ys ≡ xs)
      → (o : Ordering) → cmp y x ≡ o → y ∷ ys ≡ x ∷ xs
  by_first x y xs ys strict up same tells rest Less e = absurd (no_less x y xs ys strict same e)
  by_first x y xs ys strict up same tells rest Greater e = absurd (no_greater x y xs ys up same (by_turn y x Greater e))
  by_first x y xs ys strict up same tells rest Equal e =
      let first : y ≡ x = tells.0 e in
      let more = rest (rest_same x y xs ys first same) in
      λ i. first i ∷ more i

  pub same_order : (xs ys : List A) → IsRising (IsLess cmp) xs → IsRising (IsAtMost cmp) ys → SameItems xs ys → AllByRecursion (Tells xs) ys → ys ≡ xs
  same_order [] [] strict up same tells = refl
  same_order [] (y ∷ ys) strict up same tells = absurd (lengths_differ y ys (same (λ z. 1)))
  same_order (x ∷ xs) [] strict up same tells = absurd (lengths_differ x xs (sym (same (λ z. 1))))
  same_order (x ∷ xs) (y ∷ ys) strict up same tells =
      by_first x y xs ys strict.0 up.0 same tells.0 (λ alike. same_order xs ys strict.1 up.1 alike (all_weaker _ (Tells xs) (λ z h. h.1) ys tells.1)) (cmp y x) refl

  pub one_order : (xs ys : List A) → IsRising (IsLess cmp) xs → IsPermutation xs ys → IsRising (IsAtMost cmp) ys → ys ≡ xs
  one_order xs ys strict same up =
      same_order xs ys strict up (λ f. sum_by-IsPermutation f xs ys same)
      (recursion_from_All (Tells xs) ys (All-permutation (Tells xs) xs ys same (All-from_recursion (Tells xs) xs (tells_itself xs strict))))

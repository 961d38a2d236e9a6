-- The settings on the front stand in one order alone.
use Rattle.std.proofs.Common.{◌≡◌, ℕ, suc, ◌+◌, true, false, cond, ◌&&◌, ◌||◌, ◌==◌, List, [], ◌∷◌, get_or, refl, ap, sym, ◌∙◌, subst, arith, inl, inr}
use Rattle.std.specs.Prelude.{nat_lt}
use Rattle.std.specs.List.{AllByRecursion, sum_by}
use Rattle.std.specs.List.Sorted.{IsPermutation, IsSorted}
use Rattle.std.specs.Ordering.{is_lt, nat_cmp, ordering_then}
use Rattle.std.specs.declared.cmp.Ordering.{Ordering}
use Rattle.std.proofs.lemmas.Bool.{cases_Bool, cond-true, cond-false}
use Rattle.std.proofs.lemmas.Bool.Decides.{nat_tests}
use Rattle.std.proofs.lemmas.List.Sums.{sum_by-cons}
use Rattle.std.proofs.lemmas.List.Elements.{recursion_from_All, All-from_recursion}
use Rattle.std.proofs.lemmas.List.Sorted.{All-permutation, sum_by-IsPermutation}
use Rattle.sweep_page.specs.Points.{comes_before, placed, by_speed}
use Rattle.sweep_page.specs.declared.front_points.FrontPoint.{FrontPoint}

-- ---- by times and places

before_itself : (t p : ℕ) → (nat_lt t t || (t == t && nat_lt p p)) ≡ false
before_itself t p = grind (arith, nat_tests)

not_after : (t p u q : ℕ) → (nat_lt t u || (t == u && nat_lt p q)) ≡ true → (nat_lt u t || (u == t && nat_lt q p)) ≡ false
not_after t p u q is = grind (arith, nat_tests)

in_a_row : (t p u q v r : ℕ) → (nat_lt u t || (u == t && nat_lt q p)) ≡ false → (nat_lt v u || (v == u && nat_lt r q)) ≡ false → (nat_lt v t || (v == t && nat_lt r p)) ≡ false
in_a_row t p u q v r one two = grind (arith, nat_tests)

one_place : (t p u q : ℕ) → (nat_lt t u || (t == u && nat_lt p q)) ≡ false → (nat_lt u t || (u == t && nat_lt q p)) ≡ false → p ≡ q
one_place t p u q one two = grind (arith, nat_tests)

by_cmp : (t p u q : ℕ) (more : Ordering) → is_lt (ordering_then (nat_cmp t u) (ordering_then (nat_cmp p q) more)) ≡ false → (nat_lt t u || (t == u && nat_lt p q)) ≡ false
by_cmp t p u q more none = grind (arith, nat_tests)

-- ---- in order from the front

-- the second doesn't come before the first
abbrev pub IsAtMost : FrontPoint → FrontPoint → Type 0
IsAtMost a b = comes_before b a ≡ false

-- none comes before one that stands before it
abbrev pub IsInOrder : List FrontPoint → Type 0
IsInOrder [] = Unit {0}
IsInOrder (x ∷ xs) = AllByRecursion (IsAtMost x) xs × IsInOrder xs

weaker : (P Q : FrontPoint → Type 0) → ((x : FrontPoint) → P x → Q x) → (xs : List FrontPoint) → AllByRecursion P xs → AllByRecursion Q xs
weaker P Q f [] all = tt
weaker P Q f (x ∷ xs) all = (f x all.0, weaker P Q f xs all.1)

all_placed : (P : FrontPoint → Type 0) (p : FrontPoint) (xs : List FrontPoint) → P p → AllByRecursion P xs → AllByRecursion P (placed p xs)
all_placed P p [] here all = (here, tt)
all_placed P p (q ∷ more) here all =
    elim (cases_Bool (comes_before p q)) as (λ _. AllByRecursion P (placed p (q ∷ more))) [
      | inl is ↦ subst (AllByRecursion P) (sym (cond-true _ _ _ is)) (here, all)
      | inr late ↦ subst (AllByRecursion P) (sym (cond-false _ _ _ late)) (all.0, all_placed P p more here all.1)
    ]

placed_in_order : (p : FrontPoint) (xs : List FrontPoint) → IsInOrder xs → IsInOrder (placed p xs)
placed_in_order p [] up = (tt, tt)
placed_in_order p (q ∷ more) up =
    elim (cases_Bool (comes_before p q)) as (λ _. IsInOrder (placed p (q ∷ more))) [
      | inl is ↦
          let first : IsAtMost p q = not_after p.across p.place q.across q.place is in
          subst IsInOrder (sym (cond-true _ _ _ is))
          ((first, weaker (IsAtMost q) (IsAtMost p) (λ r low. in_a_row p.across p.place q.across q.place r.across r.place first low) more up.0), up)
      | inr late ↦ subst IsInOrder (sym (cond-false _ _ _ late)) (all_placed (IsAtMost q) p more late up.0, placed_in_order p more up.1)
    ]

in_order : (xs : List FrontPoint) → IsInOrder (by_speed xs)
in_order [] = tt
in_order (x ∷ xs) = placed_in_order x (by_speed xs) (in_order xs)

all_by_speed : (P : FrontPoint → Type 0) (xs : List FrontPoint) → AllByRecursion P xs → AllByRecursion P (by_speed xs)
all_by_speed P [] all = tt
all_by_speed P (x ∷ xs) all = all_placed P x (by_speed xs) all.0 (all_by_speed P xs all.1)

-- ---- each as often

sum_placed : (f : FrontPoint → ℕ) (p : FrontPoint) (xs : List FrontPoint) → sum_by f (placed p xs) ≡ f p + sum_by f xs
sum_placed f p [] = sum_by-cons f p []
sum_placed f p (q ∷ more) =
    elim (cases_Bool (comes_before p q)) as (λ _. sum_by f (placed p (q ∷ more)) ≡ f p + sum_by f (q ∷ more)) [
      | inl is ↦ ap (sum_by f) (cond-true _ _ _ is) ∙ sum_by-cons f p (q ∷ more)
      | inr late ↦
          let there = sum_by-cons f q (placed p more) in
          let here = sum_by-cons f q more in
          let rest = sum_placed f p more in
          ap (sum_by f) (cond-false _ _ _ late) ∙ omega (arith, there, here, rest)
    ]

sum_by_speed : (f : FrontPoint → ℕ) (xs : List FrontPoint) → sum_by f (by_speed xs) ≡ sum_by f xs
sum_by_speed f [] = refl
sum_by_speed f (x ∷ xs) =
    let there = sum_placed f x (by_speed xs) in
    let here = sum_by-cons f x xs in
    let rest = sum_by_speed f xs in
    omega (arith, there, here, rest)

abbrev IsAsOften : List FrontPoint → List FrontPoint → Type 0
IsAsOften xs ys = (f : FrontPoint → ℕ) → sum_by f ys ≡ sum_by f xs

no_item : (f : FrontPoint → ℕ) (xs : List FrontPoint) → AllByRecursion (λ x. f x ≡ 0) xs → sum_by f xs ≡ 0
no_item f [] none = refl
no_item f (x ∷ xs) none = let e = sum_by-cons f x xs in let first = none.0 in let rest = no_item f xs none.1 in omega arith

-- one if it comes before this one
counted : FrontPoint → FrontPoint → ℕ
counted x z = cond (comes_before z x) 1 0

no_earlier : (x y : FrontPoint) (xs ys : List FrontPoint) → AllByRecursion (IsAtMost x) xs → sum_by (counted x) (y ∷ ys) ≡ sum_by (counted x) (x ∷ xs) → comes_before y x ≡ false
unfolding counted
no_earlier x y xs ys up same =
    elim (cases_Bool (comes_before y x)) as (λ _. comes_before y x ≡ false) [
      | inl is ↦
          let one : counted x y ≡ 1 = cond-true _ _ _ is in
          let own : counted x x ≡ 0 = cond-false _ _ _ (before_itself x.across x.place) in
          let none : sum_by (counted x) xs ≡ 0 = no_item (counted x) xs (weaker (IsAtMost x) (λ z. counted x z ≡ 0) (λ z low. cond-false _ _ _ low) xs up) in
          let there = sum_by-cons (counted x) y ys in
          let here = sum_by-cons (counted x) x xs in
          absurd (omega (arith, one, own, none, there, here, same))
      | inr late ↦ late
    ]

-- ---- one order

module _ (P : FrontPoint → Type 0) (same : (p q : FrontPoint) → P p → P q → p.place ≡ q.place → p ≡ q) where
  not_empty : (x : FrontPoint) (xs : List FrontPoint) → sum_by (λ (z : FrontPoint). 1) (x ∷ xs) ≡ 0 → ⊥
  not_empty x xs e = let more = sum_by-cons (λ (z : FrontPoint). 1) x xs in omega arith

  rest_as_often : (x y : FrontPoint) (xs ys : List FrontPoint) → y ≡ x → IsAsOften (x ∷ xs) (y ∷ ys) → IsAsOften xs ys
  rest_as_often x y xs ys e often f =
      let first : f y ≡ f x = ap f e in
      let there = sum_by-cons f y ys in
      let here = sum_by-cons f x xs in
      let all = often f in
      omega arith

  one_order : (xs ys : List FrontPoint) → IsInOrder xs → IsInOrder ys → IsAsOften xs ys → AllByRecursion P xs → AllByRecursion P ys → ys ≡ xs
  one_order [] [] up also often ps qs = refl
  one_order [] (y ∷ ys) up also often ps qs = absurd (not_empty y ys (often (λ z. 1)))
  one_order (x ∷ xs) [] up also often ps qs = absurd (not_empty x xs (sym (often (λ z. 1))))
  one_order (x ∷ xs) (y ∷ ys) up also often ps qs =
      let not_less = no_earlier x y xs ys up.0 (often (counted x)) in
      let not_more = no_earlier y x ys xs also.0 (sym (often (counted y))) in
      let first : y ≡ x = same y x qs.0 ps.0 (one_place y.across y.place x.across x.place not_less not_more) in
      let rest = one_order xs ys up.1 also.1 (rest_as_often x y xs ys first often) ps.1 qs.1 in
      λ i. first i ∷ rest i

-- ---- in order by places

module _ (cmp : FrontPoint → FrontPoint → Ordering) (compares : (a b : FrontPoint) → is_lt (cmp a b) ≡ false → comes_before a b ≡ false) where
  tail_sorted : (x : FrontPoint) (xs : List FrontPoint) → IsSorted cmp (x ∷ xs) → IsSorted cmp xs
  tail_sorted x xs sorted k d low within =
      let e : suc k + 1 ≡ suc (k + 1) = omega arith in
      subst (λ n. is_lt (cmp (get_or (x ∷ xs) n d) (get_or xs k d)) ≡ false) e (sorted (suc k) d (omega arith) (omega arith))

  below_all : (x : FrontPoint) (xs : List FrontPoint) → IsSorted cmp (x ∷ xs) → IsInOrder xs → AllByRecursion (IsAtMost x) xs
  below_all x [] sorted up = tt
  below_all x (y ∷ ys) sorted up =
      let first : IsAtMost x y = compares y x (sorted 0 x (omega arith) (omega arith)) in
      (first, weaker (IsAtMost y) (IsAtMost x) (λ z low. in_a_row x.across x.place y.across y.place z.across z.place first low) ys up.0)

  from_sorted : (xs : List FrontPoint) → IsSorted cmp xs → IsInOrder xs
  from_sorted [] sorted = tt
  from_sorted (x ∷ xs) sorted = let up = from_sorted xs (tail_sorted x xs sorted) in (below_all x xs sorted up, up)

-- what of the derived order comes after times and places
abbrev pub rest_cmp : FrontPoint → FrontPoint → Ordering
rest_cmp a b =
    ordering_then (nat_cmp a.share b.share) (ordering_then (nat_cmp a.low b.low) (ordering_then (nat_cmp a.high b.high) (ordering_then (nat_cmp a.runs_with b.runs_with) (nat_cmp a.runs b.runs))))

-- the derived order
abbrev pub point_cmp : FrontPoint → FrontPoint → Ordering
point_cmp a b = ordering_then (nat_cmp a.across b.across) (ordering_then (nat_cmp a.place b.place) (rest_cmp a b))

-- settings that are distinguished by their places, sorted
pub sorted_by_speed : (P : FrontPoint → Type 0) → ((p q : FrontPoint) → P p → P q → p.place ≡ q.place → p ≡ q) → (xs ys : List FrontPoint) → AllByRecursion P xs → IsPermutation xs ys
    → IsSorted point_cmp ys → ys ≡ by_speed xs
sorted_by_speed P same xs ys all moved sorted =
    one_order P same (by_speed xs) ys (in_order xs) (from_sorted point_cmp (λ a b none. by_cmp a.across a.place b.across b.place (rest_cmp a b) none) ys sorted)
    (λ f. sum_by-IsPermutation f xs ys moved ∙ sym (sum_by_speed f xs))
    (all_by_speed P xs all) (recursion_from_All P ys (All-permutation P xs ys moved (All-from_recursion P xs all)))

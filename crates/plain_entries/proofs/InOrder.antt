-- A list in number order is the one sorted list of its numbers.
use Rattle.std.proofs.Common.{◌≡◌, ◌≤◌, ◌<◌, ℕ, suc, ◌+◌, Bool, true, false, cond, List, [], ◌∷◌, length, get_or, refl, ap, sym, ◌∙◌, subst, arith, inl, inr}
use Rattle.std.specs.Prelude.{nat_le, nat_lt, All}
use Rattle.std.specs.List.{AllByRecursion, sum_by}
use Rattle.std.specs.List.Sorted.{IsPermutation, IsSorted}
use Rattle.std.specs.Ordering.{is_lt, nat_cmp}
use Rattle.std.proofs.lemmas.Bool.{cases_Bool, cond-true, cond-false}
use Rattle.std.proofs.lemmas.Bool.Decides.{nat_tests}
use Rattle.std.proofs.lemmas.List.Sums.{sum_by-cons}
use Rattle.std.proofs.lemmas.List.Elements.{recursion_from_All, All-from_recursion}
use Rattle.std.proofs.lemmas.List.Sorted.{sum_by-IsPermutation}
use Rattle.plain_entries.specs.Who.{placed, in_order, turns_of}

-- ---- in order from the front

abbrev IsInOrder : List ℕ → Type 0
IsInOrder [] = Unit {0}
IsInOrder (x ∷ xs) = AllByRecursion (λ z. x ≤ z) xs × IsInOrder xs

weaker : (P Q : ℕ → Type 0) → ((x : ℕ) → P x → Q x) → (xs : List ℕ) → AllByRecursion P xs → AllByRecursion Q xs
weaker P Q f [] all = tt
weaker P Q f (x ∷ xs) all = (f x all.0, weaker P Q f xs all.1)

is_low : (p q : ℕ) → nat_le p q ≡ true → p ≤ q
is_low p q is = grind (arith, nat_tests)

is_high : (p q : ℕ) → nat_le p q ≡ false → q ≤ p
is_high p q is = grind (arith, nat_tests)

all_placed : (P : ℕ → Type 0) (p : ℕ) (xs : List ℕ) → P p → AllByRecursion P xs → AllByRecursion P (placed p xs)
all_placed P p [] here all = (here, tt)
all_placed P p (q ∷ more) here all =
    elim (cases_Bool (nat_le p q)) as (λ _. AllByRecursion P (placed p (q ∷ more))) [
      | inl is ↦ subst (AllByRecursion P) (sym (cond-true _ _ _ is)) (here, all)
      | inr late ↦ subst (AllByRecursion P) (sym (cond-false _ _ _ late)) (all.0, all_placed P p more here all.1)
    ]

placed_in_order : (p : ℕ) (xs : List ℕ) → IsInOrder xs → IsInOrder (placed p xs)
placed_in_order p [] up = (tt, tt)
placed_in_order p (q ∷ more) up =
    elim (cases_Bool (nat_le p q)) as (λ _. IsInOrder (placed p (q ∷ more))) [
      | inl is ↦
          let first : p ≤ q = is_low p q is in
          subst IsInOrder (sym (cond-true _ _ _ is)) ((first, weaker (λ z. q ≤ z) (λ z. p ≤ z) (λ r low. omega arith) more up.0), up)
      | inr late ↦
          let first : q ≤ p = is_high p q late in
          subst IsInOrder (sym (cond-false _ _ _ late)) (all_placed (λ z. q ≤ z) p more first up.0, placed_in_order p more up.1)
    ]

ordered : (xs : List ℕ) → IsInOrder (in_order xs)
ordered [] = tt
ordered (x ∷ xs) = placed_in_order x (in_order xs) (ordered xs)

all_ordered : (P : ℕ → Type 0) (xs : List ℕ) → AllByRecursion P xs → AllByRecursion P (in_order xs)
all_ordered P [] all = tt
all_ordered P (x ∷ xs) all = all_placed P x (in_order xs) all.0 (all_ordered P xs all.1)

-- ---- each as often

sum_placed : (f : ℕ → ℕ) (p : ℕ) (xs : List ℕ) → sum_by f (placed p xs) ≡ f p + sum_by f xs
sum_placed f p [] = sum_by-cons f p []
sum_placed f p (q ∷ more) =
    elim (cases_Bool (nat_le p q)) as (λ _. sum_by f (placed p (q ∷ more)) ≡ f p + sum_by f (q ∷ more)) [
      | inl is ↦ ap (sum_by f) (cond-true _ _ _ is) ∙ sum_by-cons f p (q ∷ more)
      | inr late ↦
          let there = sum_by-cons f q (placed p more) in
          let here = sum_by-cons f q more in
          let rest = sum_placed f p more in
          ap (sum_by f) (cond-false _ _ _ late) ∙ omega (arith, there, here, rest)
    ]

sum_ordered : (f : ℕ → ℕ) (xs : List ℕ) → sum_by f (in_order xs) ≡ sum_by f xs
sum_ordered f [] = refl
sum_ordered f (x ∷ xs) =
    let there = sum_placed f x (in_order xs) in
    let here = sum_by-cons f x xs in
    let rest = sum_ordered f xs in
    omega (arith, there, here, rest)

abbrev IsAsOften : List ℕ → List ℕ → Type 0
IsAsOften xs ys = (f : ℕ → ℕ) → sum_by f ys ≡ sum_by f xs

no_item : (f : ℕ → ℕ) (xs : List ℕ) → AllByRecursion (λ x. f x ≡ 0) xs → sum_by f xs ≡ 0
no_item f [] none = refl
no_item f (x ∷ xs) none = let e = sum_by-cons f x xs in let first = none.0 in let rest = no_item f xs none.1 in omega arith

-- one if it is below this one
counted : ℕ → ℕ → ℕ
counted x z = cond (nat_lt z x) 1 0

counted_below : (x z : ℕ) → z < x → counted x z ≡ 1
unfolding counted
counted_below x z low = let test : nat_lt z x ≡ true = grind (arith, nat_tests) in cond-true _ _ _ test

counted_from : (x z : ℕ) → x ≤ z → counted x z ≡ 0
unfolding counted
counted_from x z low = let test : nat_lt z x ≡ false = grind (arith, nat_tests) in cond-false _ _ _ test

no_earlier : (x y : ℕ) (xs ys : List ℕ) → AllByRecursion (λ z. x ≤ z) xs → sum_by (counted x) (y ∷ ys) ≡ sum_by (counted x) (x ∷ xs) → x ≤ y
no_earlier x y xs ys up same =
    elim (cases_Bool (nat_lt y x)) as (λ _. x ≤ y) [
      | inl is ↦
          let low : y < x = grind (arith, nat_tests) in
          let one = counted_below x y low in
          let own = counted_from x x (omega arith) in
          let none : sum_by (counted x) xs ≡ 0 = no_item (counted x) xs (weaker (λ z. x ≤ z) (λ z. counted x z ≡ 0) (counted_from x) xs up) in
          let there = sum_by-cons (counted x) y ys in
          let here = sum_by-cons (counted x) x xs in
          absurd (omega (arith, one, own, none, there, here, same))
      | inr late ↦ grind (arith, nat_tests)
    ]

-- ---- one order

not_empty : (x : ℕ) (xs : List ℕ) → sum_by (λ (z : ℕ). 1) (x ∷ xs) ≡ 0 → ⊥
not_empty x xs e = let more = sum_by-cons (λ (z : ℕ). 1) x xs in omega arith

rest_as_often : (x y : ℕ) (xs ys : List ℕ) → y ≡ x → IsAsOften (x ∷ xs) (y ∷ ys) → IsAsOften xs ys
rest_as_often x y xs ys e often f =
    let first : f y ≡ f x = ap f e in
    let there = sum_by-cons f y ys in
    let here = sum_by-cons f x xs in
    let all = often f in
    omega arith

one_order : (xs ys : List ℕ) → IsInOrder xs → IsInOrder ys → IsAsOften xs ys → ys ≡ xs
one_order [] [] up also often = refl
one_order [] (y ∷ ys) up also often = absurd (not_empty y ys (often (λ z. 1)))
one_order (x ∷ xs) [] up also often = absurd (not_empty x xs (sym (often (λ z. 1))))
one_order (x ∷ xs) (y ∷ ys) up also often =
    let not_less = no_earlier x y xs ys up.0 (often (counted x)) in
    let not_more = no_earlier y x ys xs also.0 (sym (often (counted y))) in
    let first : y ≡ x = omega arith in
    let rest = one_order xs ys up.1 also.1 (rest_as_often x y xs ys first often) in
    λ i. first i ∷ rest i

-- ---- a sorted list is in order

not_below : (x y : ℕ) → is_lt (nat_cmp y x) ≡ false → x ≤ y
not_below x y none = grind (arith, nat_tests)

tail_sorted : (x : ℕ) (xs : List ℕ) → IsSorted nat_cmp (x ∷ xs) → IsSorted nat_cmp xs
tail_sorted x xs sorted k d low within =
    let e : suc k + 1 ≡ suc (k + 1) = omega arith in
    subst (λ n. is_lt (nat_cmp (get_or (x ∷ xs) n d) (get_or xs k d)) ≡ false) e (sorted (suc k) d (omega arith) (omega arith))

below_all : (x : ℕ) (xs : List ℕ) → IsSorted nat_cmp (x ∷ xs) → IsInOrder xs → AllByRecursion (λ z. x ≤ z) xs
below_all x [] sorted up = tt
below_all x (y ∷ ys) sorted up =
    let first : x ≤ y = not_below x y (sorted 0 x (omega arith) (omega arith)) in
    (first, weaker (λ z. y ≤ z) (λ z. x ≤ z) (λ z low. omega arith) ys up.0)

from_sorted : (xs : List ℕ) → IsSorted nat_cmp xs → IsInOrder xs
from_sorted [] sorted = tt
from_sorted (x ∷ xs) sorted = let up = from_sorted xs (tail_sorted x xs sorted) in (below_all x xs sorted up, up)

pub sorted_is_in_order : (xs ys : List ℕ) → IsPermutation xs ys → IsSorted nat_cmp ys → ys ≡ in_order xs
sorted_is_in_order xs ys moved sorted =
    one_order (in_order xs) ys (ordered xs) (from_sorted ys sorted) (λ f. sum_by-IsPermutation f xs ys moved ∙ sym (sum_ordered f xs))

-- ---- what holds of the members of an entry holds of them in turns

on_turns : (P : ℕ → Type 0) (recurs : Bool) (xs : List ℕ) → AllByRecursion P xs → AllByRecursion P (turns_of recurs xs)
on_turns P true xs all = all_ordered P xs all
on_turns P false xs all = all

pub all_turns : (P : ℕ → Type 0) (recurs : Bool) (xs : List ℕ) → All P xs → All P (turns_of recurs xs)
all_turns P recurs xs all = All-from_recursion P (turns_of recurs xs) (on_turns P recurs xs (recursion_from_All P xs all))

length_placed : (p : ℕ) (xs : List ℕ) → length (placed p xs) ≡ suc (length xs)
length_placed p [] = refl
length_placed p (q ∷ more) =
    elim (cases_Bool (nat_le p q)) as (λ _. length (placed p (q ∷ more)) ≡ suc (length (q ∷ more))) [
      | inl is ↦ ap length (cond-true _ _ _ is)
      | inr late ↦ ap length (cond-false _ _ _ late) ∙ ap suc (length_placed p more)
    ]

length_ordered : (xs : List ℕ) → length (in_order xs) ≡ length xs
length_ordered [] = refl
length_ordered (x ∷ xs) = length_placed x (in_order xs) ∙ ap suc (length_ordered xs)

pub length_turns : (recurs : Bool) (xs : List ℕ) → length (turns_of recurs xs) ≡ length xs
length_turns true xs = length_ordered xs
length_turns false xs = refl

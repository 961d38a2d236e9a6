-- Round steps, found one power of ten after the other.
use Rattle.std.proofs.Common.{◌≡◌, ℕ, ◌+◌, ◌<◌, ◌≤◌, Bool, Option, Some, None, List, [], ◌∷◌, ◌++◌, length, get_or, drop, drop-cons, add-one, refl, ap, sym, ◌∙◌, inl, inr}
use Rattle.std.specs.List.{find, flat_map}
use Rattle.std.proofs.lemmas.Bool.{cond-true, cond-false, cases_Bool}
use Rattle.std.proofs.lemmas.List.{drop_all}
use Rattle.drawing.specs.Rounds.{with_digits}

find_later : {X : Type 0} (test : X → Bool) (xs ys : List X) → find test xs ≡ None → find test (xs ++ ys) ≡ find test ys
find_later test [] ys none = refl
find_later {X} test (x ∷ xs) ys none =
    elim (cases_Bool (test x)) as (λ _. find test (x ∷ xs ++ ys) ≡ find test ys) [
      | inl here ↦ absurd (apart x (sym (cond-true (test x) (Some x) (find test xs) here) ∙ none))
      | inr there ↦ cond-false _ _ _ there ∙ find_later test xs ys (sym (cond-false (test x) (Some x) (find test xs) there) ∙ none)
    ]
  where
    apart : (x : X) → Some x ≡ None → ⊥
    apart x is = cc

find_here : {X : Type 0} (test : X → Bool) (xs ys : List X) (x : X) → find test xs ≡ Some x → find test (xs ++ ys) ≡ Some x
find_here test [] ys x is = absurd cc
find_here test (y ∷ xs) ys x is =
    elim (cases_Bool (test y)) as (λ _. find test (y ∷ xs ++ ys) ≡ Some x) [
      | inl here ↦ cond-true _ _ _ here ∙ sym (cond-true (test y) (Some y) (find test xs) here) ∙ is
      | inr there ↦ cond-false _ _ _ there ∙ find_here test xs ys x (sym (cond-false (test y) (Some y) (find test xs) there) ∙ is)
    ]

-- the powers from a place on are the one that stands there, and those after it
from_place : (powers : List ℕ) (place : ℕ) → place < length powers → flat_map with_digits (drop place powers) ≡ with_digits (get_or powers place 0) ++ flat_map with_digits (drop (place + 1) powers)
from_place powers place within = ap (flat_map with_digits) (drop-cons powers place 0 within ∙ ap (λ n. get_or powers place 0 ∷ drop n powers) (sym (add-one place)))

-- where a power has none, a later one has it
pub power_past : (test : ℕ → Bool) (powers : List ℕ) (place : ℕ) (wanted : Option ℕ) → place < length powers → find test (flat_map with_digits (drop place powers)) ≡ wanted
    → find test (with_digits (get_or powers place 0)) ≡ None → find test (flat_map with_digits (drop (place + 1) powers)) ≡ wanted
power_past test powers place wanted within left none =
    sym (find_later test (with_digits (get_or powers place 0)) (flat_map with_digits (drop (place + 1) powers)) none)
    ∙ sym (ap (find test) (from_place powers place within)) ∙ left

-- where it has one, that is it
pub power_found : (test : ℕ → Bool) (powers : List ℕ) (place step : ℕ) (wanted : Option ℕ) → place < length powers → find test (flat_map with_digits (drop place powers)) ≡ wanted
    → find test (with_digits (get_or powers place 0)) ≡ Some step → wanted ≡ Some step
power_found test powers place step wanted within left is =
    sym left ∙ ap (find test) (from_place powers place within) ∙ find_here test (with_digits (get_or powers place 0)) (flat_map with_digits (drop (place + 1) powers)) step is

-- past them all there is none
pub none_left : (test : ℕ → Bool) (powers : List ℕ) (place : ℕ) (wanted : Option ℕ) → length powers ≤ place → find test (flat_map with_digits (drop place powers)) ≡ wanted → wanted ≡ None
none_left test powers place wanted past left = sym left ∙ ap (λ l. find test (flat_map with_digits l)) (drop_all place powers past)

-- ---- the same of steps that stand one by one

from_here : (steps : List ℕ) (place : ℕ) → place < length steps → drop place steps ≡ (get_or steps place 0 ∷ []) ++ drop (place + 1) steps
from_here steps place within = drop-cons steps place 0 within ∙ ap (λ n. get_or steps place 0 ∷ drop n steps) (sym (add-one place))

pub one_past : (test : ℕ → Bool) (steps : List ℕ) (place : ℕ) (wanted : Option ℕ) → place < length steps → find test (drop place steps) ≡ wanted
    → find test (get_or steps place 0 ∷ []) ≡ None → find test (drop (place + 1) steps) ≡ wanted
one_past test steps place wanted within left none =
    sym (find_later test (get_or steps place 0 ∷ []) (drop (place + 1) steps) none) ∙ sym (ap (find test) (from_here steps place within)) ∙ left

pub one_found : (test : ℕ → Bool) (steps : List ℕ) (place step : ℕ) (wanted : Option ℕ) → place < length steps → find test (drop place steps) ≡ wanted
    → find test (get_or steps place 0 ∷ []) ≡ Some step → wanted ≡ Some step
one_found test steps place step wanted within left is =
    sym left ∙ ap (find test) (from_here steps place within) ∙ find_here test (get_or steps place 0 ∷ []) (drop (place + 1) steps) step is

pub no_one : (test : ℕ → Bool) (steps : List ℕ) (place : ℕ) (wanted : Option ℕ) → length steps ≤ place → find test (drop place steps) ≡ wanted → wanted ≡ None
no_one test steps place wanted past left = sym left ∙ ap (find test) (drop_all place steps past)

-- the powers of ten, of which steps are made
abbrev pub powers : List ℕ
powers = 1 ∷ 10 ∷ 100 ∷ 1000 ∷ 10000 ∷ 100000 ∷ 1000000 ∷ 10000000 ∷ 100000000 ∷ 1000000000 ∷ 10000000000 ∷ 100000000000 ∷ 1000000000000 ∷ 10000000000000 ∷ 100000000000000 ∷ 1000000000000000 ∷ 10000000000000000 ∷ 100000000000000000 ∷ 1000000000000000000 ∷ []

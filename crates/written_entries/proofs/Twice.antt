-- A member that stands twice among some: one more of them.
use Rattle.std.proofs.Common.{◌≡◌, ◌<◌, ◌+◌, ℕ, List, [], ◌∷◌, ◌++◌, ◌||◌, Bool, true, false, not, length, take, drop, get_or, nat_eq, refl, ap, sym, ◌∙◌, arith, append_assoc, if◌then◌else◌}
use Rattle.std.specs.List.{list_any}
use Rattle.std.proofs.lemmas.Bool.{or_right}
use Rattle.std.proofs.lemmas.Bool.Decides.{nat_tests}
use Rattle.std.proofs.lemmas.List.{take_more, append-nil, take-append-drop}
use Rattle.std.proofs.lemmas.List.Folds.{list_any-append}
use Rattle.written_entries.specs.Bad.{stands_twice}

nat_eq-sym : (a b : ℕ) → nat_eq a b ≡ nat_eq b a
nat_eq-sym a b = grind (arith, nat_tests)

any_turned : (x : ℕ) (xs : List ℕ) → list_any (λ y. nat_eq y x) xs ≡ list_any (nat_eq x) xs
any_turned x [] = refl
any_turned x (y ∷ xs) = ap (λ b. b || list_any (λ y. nat_eq y x) xs) (nat_eq-sym y x) ∙ ap (λ b. nat_eq x y || b) (any_turned x xs)

regroup : (a b c d : Bool) → ((a || (b || false)) || (c || d)) ≡ ((b || c) || (a || d))
regroup true true c d = refl
regroup true false true d = refl
regroup true false false d = refl
regroup false true c d = refl
regroup false false c d = refl

-- one more member
twice_last : (xs : List ℕ) (x : ℕ) → stands_twice (xs ++ x ∷ []) ≡ (list_any (λ y. nat_eq y x) xs || stands_twice xs)
twice_last [] x = refl
twice_last (y ∷ xs) x =
    ap (λ more. more || stands_twice (xs ++ x ∷ [])) (list_any-append (nat_eq y) xs (x ∷ []))
    ∙ ap (λ more. (list_any (nat_eq y) xs || (nat_eq y x || false)) || more) (twice_last xs x)
    ∙ regroup (list_any (nat_eq y) xs) (nat_eq y x) (list_any (λ z. nat_eq z x) xs) (stands_twice xs)

twice_kept : (xs ys : List ℕ) → stands_twice xs ≡ true → stands_twice (xs ++ ys) ≡ true
twice_kept xs [] found = ap stands_twice (append-nil xs) ∙ found
twice_kept xs (y ∷ ys) found =
    ap stands_twice (sym (append_assoc xs (y ∷ []) ys))
    ∙ twice_kept (xs ++ y ∷ []) ys (twice_last xs y ∙ or_right (list_any (λ z. nat_eq z y) xs) (stands_twice xs) found)

pub broken_by : (b a : Bool) → a ≡ not b → a ≡ false → b ≡ true
broken_by true a same e = refl
broken_by false a same e = sym e ∙ same

pub fits_by : (b a : Bool) → a ≡ not b → a ≡ true → b ≡ false
fits_by true a same e = sym e ∙ same
fits_by false a same e = refl

module _ (list : List ℕ) (i item k : ℕ) (old : List ℕ) (within : i < length list) (here : item ≡ get_or list i item) (same : k ≡ item) (are : old ≡ take i list) where
  one_more : take (i + 1) list ≡ take i list ++ item ∷ []
  one_more = take_more list i item within ∙ ap (λ x. take i list ++ x ∷ []) (sym here)

  among : list_any (λ y. nat_eq y item) (take i list) ≡ list_any (nat_eq k) old
  among = any_turned item (take i list) ∙ ap (λ xs. list_any (nat_eq item) xs) (sym are) ∙ ap (λ n. list_any (nat_eq n) old) (sym same)

  counted : (b : Bool) → list_any (nat_eq k) old ≡ b → stands_twice (take (i + 1) list) ≡ (b || stands_twice (take i list))
  counted b is = ap stands_twice one_more ∙ twice_last (take i list) item ∙ ap (λ a. a || stands_twice (take i list)) (among ∙ is)

  -- one that was seen stands twice
  pub found_twice : list_any (nat_eq k) old ≡ true → true ≡ stands_twice list
  found_twice again =
      sym (ap stands_twice (sym (take-append-drop (i + 1) list)) ∙ twice_kept (take (i + 1) list) (drop (i + 1) list) (counted true again))

  -- one that wasn't seen leaves none twice
  pub once_more : list_any (nat_eq k) old ≡ false → stands_twice (take i list) ≡ false → stands_twice (take (i + 1) list) ≡ false
  once_more fresh once = counted false fresh ∙ once

  pub seen_more : (keys : List ℕ) → list_any (nat_eq k) old ≡ false → keys ≡ (if list_any (nat_eq k) old then old else old ++ k ∷ []) → keys ≡ take (i + 1) list
  seen_more keys fresh grown = grown ∙ ap (λ b. if b then old else old ++ k ∷ []) fresh ∙ ap (λ xs. xs ++ k ∷ []) are ∙ ap (λ x. take i list ++ x ∷ []) same ∙ sym one_more

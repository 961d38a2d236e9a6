-- Of the rows of a run, those that come before some moment.
use Rattle.std.proofs.Common.{◌≡◌, ◌⊎◌, ℕ, ◌≤◌, Bool, true, false, cond, not, List, [], ◌∷◌, ◌++◌, Option, Some, None, ap, ◌∙◌, sym, subst, refl, arith, inl, inr}
use Rattle.std.specs.List.{AllByRecursion, filter, list_all, sum_by}
use Rattle.std.specs.List.Sorted.{IsPermutation, IsSorted}
use Rattle.std.specs.Cmp.{IsTotalOrder}
use Rattle.std.specs.declared.cmp.Ordering.{Ordering}
use Rattle.std.specs.declared.cmp.Ordering.TheVariants.{Less}
use Rattle.std.proofs.lemmas.Bool.{false≢true, and_parts, ltb-true, lt-ltb}
use Rattle.std.proofs.lemmas.List.Sums.{sum_by-cons}
use Rattle.std.proofs.lemmas.List.Sorted.{All-permutation, sum_by-IsPermutation}
use Rattle.std.proofs.lemmas.List.Elements.{recursion_from_All, All-from_recursion}
use Rattle.base.specs.declared.key.Key.{Key}
use Rattle.base.specs.Order.{moments-from_before}
use Rattle.base.specs.Rising.{IsRising, IsPlaceBefore}
use Rattle.base.proofs.Rising.{all_weaker}
use Rattle.trace.specs.declared.row.Row.{Row}
use Rattle.member.specs.Places.{place_of}
use Rattle.windows.proofs.Numbers.{rising_kept}
use Rattle.windows.proofs.Sorting.{IsLess, IsAtMost, Tells, rising_from_sorted, tells_itself, same_order}
use Rattle.windows.proofs.Merge.{filter_none}
use Rattle.turns.specs.Parts.{is_before}

-- ---- lists with the same items

-- one of these
abbrev pub IsAmong : {A : Type 0} → List A → A → Type 0
IsAmong [] y = ⊥
IsAmong (x ∷ xs) y = (y ≡ x) ⊎ IsAmong xs y

-- the items of the one list are those of the other, as often, in some order
pub record AreItemsOf {A : Type 0} (whole items : List A) : Type 0 where
  pub same : (weight : A → ℕ) → sum_by weight items ≡ sum_by weight whole
  pub there : AllByRecursion (IsAmong whole) items

module _ {A : Type 0} where
  pub at_one : (P : A → Type 0) (xs : List A) (y : A) → AllByRecursion P xs → IsAmong xs y → P y
  at_one P [] y all among = absurd among
  at_one P (x ∷ xs) y all (inl same) = subst P (sym same) all.0
  at_one P (x ∷ xs) y all (inr more) = at_one P xs y all.1 more

  each_among : (xs : List A) → AllByRecursion (IsAmong xs) xs
  each_among [] = tt
  each_among (x ∷ xs) = (inl refl, all_weaker _ (IsAmong (x ∷ xs)) (λ y among. inr among) xs (each_among xs))

  pub own_items : (xs : List A) → AreItemsOf xs xs
  own_items xs = record { same = λ weight. refl; there = each_among xs }

  -- another order of the items is one of theirs
  pub items_moved : (whole xs ys : List A) → IsPermutation xs ys → AreItemsOf whole xs → AreItemsOf whole ys
  items_moved whole xs ys moved are = record {
    same = λ weight. sum_by-IsPermutation weight xs ys moved ∙ are.same weight;
    there = recursion_from_All (IsAmong whole) ys (All-permutation (IsAmong whole) xs ys moved (All-from_recursion (IsAmong whole) xs are.there));
  }

  -- no item: none of these
  pub no_items : (whole : List A) → AreItemsOf whole [] → whole ≡ []
  no_items [] are = refl
  no_items (x ∷ xs) are =
      let none = are.same (λ y. 1) in
      let more = sum_by-cons (λ (y : A). 1) x xs in
      absurd (omega arith)

  -- ---- of those that pass a test

  sum_kept_either : (weight : A → ℕ) (test : A → Bool) (x : A) (xs : List A) (b : Bool) → test x ≡ b → sum_by weight (filter test xs) ≡ sum_by (λ y. cond (test y) (weight y) 0) xs
      → sum_by weight (cond b (x ∷ filter test xs) (filter test xs)) ≡ sum_by (λ y. cond (test y) (weight y) 0) (x ∷ xs)
  sum_kept_either weight test x xs true e rest =
      let here = sum_by-cons weight x (filter test xs) in
      let there = sum_by-cons (λ y. cond (test y) (weight y) 0) x xs in
      let first : cond (test x) (weight x) 0 ≡ weight x = ap (λ b. cond b (weight x) 0) e in
      omega arith
  sum_kept_either weight test x xs false e rest =
      let there = sum_by-cons (λ y. cond (test y) (weight y) 0) x xs in
      let first : cond (test x) (weight x) 0 ≡ 0 = ap (λ b. cond b (weight x) 0) e in
      omega arith

  sum_kept : (weight : A → ℕ) (test : A → Bool) (xs : List A) → sum_by weight (filter test xs) ≡ sum_by (λ y. cond (test y) (weight y) 0) xs
  sum_kept weight test [] = refl
  sum_kept weight test (x ∷ xs) = sum_kept_either weight test x xs (test x) refl (sum_kept weight test xs)

  all_of_kept : (test : A → Bool) (P : A → Type 0) (xs : List A) → AllByRecursion P xs → AllByRecursion (λ x. (test x ≡ true) × P x) (filter test xs)
  all_of_kept test P [] all = tt
  all_of_kept test P (x ∷ xs) all = either (all_of_kept test P xs all.1) (test x) refl
    where
      either : AllByRecursion (λ x. (test x ≡ true) × P x) (filter test xs) → (b : Bool) → test x ≡ b → AllByRecursion (λ x. (test x ≡ true) × P x) (cond b (x ∷ filter test xs) (filter test xs))
      either rest true e = ((e, all.0), rest)
      either rest false e = rest

  among_kept : (test : A → Bool) (xs : List A) (y : A) → test y ≡ true → IsAmong xs y → IsAmong (filter test xs) y
  among_kept test [] y passes among = absurd among
  among_kept test (x ∷ xs) y passes among = either (among_kept test xs y passes) (test x) refl among
    where
      either : (IsAmong xs y → IsAmong (filter test xs) y) → (b : Bool) → test x ≡ b → IsAmong (x ∷ xs) y → IsAmong (cond b (x ∷ filter test xs) (filter test xs)) y
      either rest true e (inl same) = inl same
      either rest true e (inr more) = inr (rest more)
      either rest false e (inl same) = absurd (false≢true (sym e ∙ ap test (sym same) ∙ passes))
      either rest false e (inr more) = rest more

  pub kept_append : (test : A → Bool) (xs ys : List A) → filter test (xs ++ ys) ≡ filter test xs ++ filter test ys
  kept_append test [] ys = refl
  kept_append test (x ∷ xs) ys = either (kept_append test xs ys) (test x)
    where
      either : filter test (xs ++ ys) ≡ filter test xs ++ filter test ys → (b : Bool) → cond b (x ∷ filter test (xs ++ ys)) (filter test (xs ++ ys)) ≡ cond b (x ∷ filter test xs) (filter test xs) ++ filter test ys
      either rest true = ap (λ l. x ∷ l) rest
      either rest false = rest

  all_kept_same : (test : A → Bool) (xs : List A) → AllByRecursion (λ x. test x ≡ true) xs → filter test xs ≡ xs
  all_kept_same test [] all = refl
  all_kept_same test (x ∷ xs) all = ap (λ b. cond b (x ∷ filter test xs) (filter test xs)) all.0 ∙ ap (λ l. x ∷ l) (all_kept_same test xs all.1)

  abbrev others : (A → Bool) → A → Bool
  others test x = not (test x)

  each_passes : (test : A → Bool) (xs : List A) → list_all test xs ≡ true → AllByRecursion (λ x. test x ≡ true) xs
  each_passes test [] all = tt
  each_passes test (x ∷ xs) all = let both = and_parts _ _ all in (both.0, each_passes test xs both.1)

  -- where all pass, these are all, and there are no others
  pub all_kept : (test : A → Bool) (xs : List A) → list_all test xs ≡ true → xs ≡ filter test xs
  all_kept test xs all = sym (all_kept_same test xs (each_passes test xs all))

  pub no_others : (test : A → Bool) (xs : List A) → list_all test xs ≡ true → [] ≡ filter (others test) xs
  no_others test xs all = sym (filter_none (others test) xs (all_weaker _ _ (λ x passes. ap not passes) xs (each_passes test xs all)))

  -- those of a list are those of its items
  kept_items : (test : A → Bool) (whole items : List A) → AreItemsOf whole items → AreItemsOf (filter test whole) (filter test items)
  kept_items test whole items are = record {
    same = λ weight. sum_kept weight test items ∙ are.same (λ y. cond (test y) (weight y) 0) ∙ sym (sum_kept weight test whole);
    there = all_weaker _ (IsAmong (filter test whole)) (λ y h. among_kept test whole y h.0 h.1) (filter test items) (all_of_kept test (IsAmong whole) items are.there);
  }

  -- where what passes comes before what doesn't, the list is the one and then the other
  module _ (before : A → A → Type 0) (test : A → Bool) (down : (a b : A) → before a b → test b ≡ true → test a ≡ true) where
    none_after : (x : A) (xs : List A) → test x ≡ false → AllByRecursion (before x) xs → AllByRecursion (λ y. test y ≡ false) xs
    none_after x xs e up = all_weaker _ (λ y. test y ≡ false) (λ y is. by_test y (test y) refl is) xs up
      where
        by_test : (y : A) (b : Bool) → test y ≡ b → before x y → test y ≡ false
        by_test y true h is = absurd (false≢true (sym e ∙ down x y is h))
        by_test y false h is = h

    pub in_two : (xs : List A) → IsRising before xs → xs ≡ filter test xs ++ filter (others test) xs
    in_two [] up = refl
    in_two (x ∷ xs) up = by_test (in_two xs up.1) (test x) refl
      where
        by_test : xs ≡ filter test xs ++ filter (others test) xs → (b : Bool) → test x ≡ b → x ∷ xs ≡ cond b (x ∷ filter test xs) (filter test xs) ++ cond (not b) (x ∷ filter (others test) xs) (filter (others test) xs)
        by_test rest true e = ap (λ l. x ∷ l) rest
        by_test rest false e =
            let none = none_after x xs e up.0 in
            sym
            (ap (λ l. l ++ x ∷ filter (others test) xs) (filter_none test xs none)
            ∙ ap (λ l. x ∷ l) (all_kept_same (others test) xs (all_weaker _ (λ y. not (test y) ≡ true) (λ y h. ap not h) xs none)))

-- ---- rows before a moment

module _ (cmp : Row → Row → Ordering) (total : IsTotalOrder cmp) (agrees : (a b : Row) → IsPlaceBefore (place_of a) (place_of b) → cmp a b ≡ Less) (least : Option ℕ) where
  early_down : (a b : Row) → IsPlaceBefore (place_of a) (place_of b) → is_before least b ≡ true → is_before least a ≡ true
  early_down = by_least least
    where
      at_most : (a b : Row) → IsPlaceBefore (place_of a) (place_of b) → a.at ≤ b.at
      at_most a b (inl before) = moments-from_before (place_of a).0 (place_of b).0 before
      at_most a b (inr same) = let e : a.at ≡ b.at = ap (λ (k : Key). k.at) same.0 in omega arith

      by_least : (t : Option ℕ) (a b : Row) → IsPlaceBefore (place_of a) (place_of b) → is_before t b ≡ true → is_before t a ≡ true
      by_least None a b before early = refl
      by_least (Some t) a b before early = let low = at_most a b before in let h = ltb-true b.at t early in lt-ltb a.at t (omega arith)

  module _ (rest sorted left : List Row) (up : IsRising (λ a b. IsPlaceBefore (place_of a) (place_of b)) rest) (order : IsSorted cmp sorted) (are : AreItemsOf rest (sorted ++ left))
      (late : AllByRecursion (λ row. is_before least row ≡ false) left) where
    strict : (xs : List Row) → IsRising (λ a b. IsPlaceBefore (place_of a) (place_of b)) xs → IsRising (IsLess cmp) xs
    strict [] h = tt
    strict (x ∷ xs) h = (all_weaker _ (IsLess cmp x) (λ y before. agrees x y before) xs h.0, strict xs h.1)

    first_items : AreItemsOf (filter (is_before least) rest) (filter (is_before least) sorted)
    first_items =
        subst (AreItemsOf (filter (is_before least) rest))
        (kept_append (is_before least) sorted left ∙ ap (λ l. filter (is_before least) sorted ++ l) (filter_none (is_before least) left late) ∙ append_none (filter (is_before least) sorted))
        (kept_items (is_before least) rest (sorted ++ left) are)
      where
        append_none : (xs : List Row) → xs ++ [] ≡ xs
        append_none [] = refl
        append_none (x ∷ xs) = ap (λ l. x ∷ l) (append_none xs)

    -- those before it, sorted, are the first of the rest
    first_same : filter (is_before least) sorted ≡ filter (is_before least) rest
    first_same =
        let risen = rising_kept (IsLess cmp) (is_before least) rest (strict rest up) in
        same_order cmp total (filter (is_before least) rest) (filter (is_before least) sorted) risen
        (rising_kept (IsAtMost cmp) (is_before least) sorted (rising_from_sorted cmp total sorted order)) first_items.same
        (all_weaker _ (Tells cmp total (filter (is_before least) rest))
        (λ y among. at_one (Tells cmp total (filter (is_before least) rest)) (filter (is_before least) rest) y (tells_itself cmp total (filter (is_before least) rest) risen) among)
        (filter (is_before least) sorted) first_items.there)

    pub rest_in_two : rest ≡ filter (is_before least) sorted ++ filter (others (is_before least)) rest
    rest_in_two =
        in_two (λ a b. IsPlaceBefore (place_of a) (place_of b)) (is_before least) early_down rest up ∙ ap (λ l. l ++ filter (others (is_before least)) rest) (sym first_same)

    -- and what stays is of those that aren't before it
    pub items_left : AreItemsOf (filter (others (is_before least)) rest) (filter (others (is_before least)) sorted ++ left)
    items_left =
        subst (AreItemsOf (filter (others (is_before least)) rest))
        (kept_append (others (is_before least)) sorted left
        ∙ ap (λ l. filter (others (is_before least)) sorted ++ l) (all_kept_same (others (is_before least)) left (all_weaker _ (λ row. not (is_before least row) ≡ true) (λ row h. ap not h) left late)))
        (kept_items (others (is_before least)) rest (sorted ++ left) are)

-- Two sets of events as one.
use Rattle.std.proofs.Common.{◌≡◌, ℕ, zero, suc, ◌+◌, ◌-◌, ◌<◌, ◌≤◌, ◌⊎◌, Bool, true, false, cond, List, [], ◌∷◌, ◌++◌, Option, Some, None, IfSome, IfNone, Result, Ok, Err, OnOk, OnErr, ap, ◌∙◌, sym, subst, refl, inl, inr, arith}
use Rattle.std.specs.Option.{is_some}
use Rattle.std.specs.Ordering.{eq_by_cmp}
use Rattle.std.specs.FinMap.{FinMap, entries, empty, get, contains_key, insert, remove, find, get-entries, get-from_entries, get-insert, get-remove, get-empty, same_map, len, len-empty, len-insert, len-remove, empty_of_len}
use Rattle.std.proofs.lemmas.Bool.{false≢true}
use Rattle.base.specs.declared.key.Key.{Key}
use Rattle.base.specs.Order.{key_cmp, key_total, key_exact, IsBefore, moments-from_not_before}
use Rattle.base.specs.Run.{IsFirst, tells, holds-with_events, contains-remove}
use Rattle.worker_queue.specs.Queue.{IsLeastKey, NoneIsBelow}
use Rattle.worker_queue.specs.Slots.{NoneIsBefore}
use Rattle.worker_queue.specs.Union.{union, AreApart}
use Rattle.worker_queue.proofs.Lists.{not_before_through}
use Rattle.worker_queue.proofs.Wheels.{or_else}

find-append : {E : Type 0} (xs ys : List (Key × E)) (q : Key) → find key_cmp q (xs ++ ys) ≡ or_else (find key_cmp q xs) (find key_cmp q ys)
find-append [] ys q = refl
find-append {E} (x ∷ xs) ys q = ap (cond (eq_by_cmp key_cmp q x.0) (Some x.1)) (find-append xs ys q) ∙ chosen (eq_by_cmp key_cmp q x.0) x.1 (find key_cmp q xs)
  where
    chosen : (b : Bool) (e : E) (o : Option E) → cond b (Some e) (or_else o (find key_cmp q ys)) ≡ or_else (cond b (Some e) o) (find key_cmp q ys)
    chosen true e o = refl
    chosen false e o = refl

no_option : {A : Type 0} (o : Option A) → is_some o ≡ false → o ≡ None
no_option None none = refl
no_option (Some x) none = absurd (false≢true (sym none))

not_in : (b : Bool) → (b ≡ true → ⊥) → b ≡ false
not_in true none = absurd (none refl)
not_in false none = refl

module _ {E : Type 0} where
  pub get_union : (a b : FinMap {K = Key} key_cmp E) (q : Key) → get (union a b) q ≡ or_else (get a q) (get b q)
  get_union a b q =
      get-from_entries key_total (entries a ++ entries b) q ∙ find-append (entries a) (entries b) q ∙ ap (λ o. or_else o (find key_cmp q (entries b))) (sym (get-entries a q))
      ∙ ap (or_else (get a q)) (sym (get-entries b q))

  pub not_in_empty : (m : FinMap {K = Key} key_cmp E) (q : Key) → m ≡ empty → contains_key m q ≡ true → ⊥
  not_in_empty m q none here = false≢true (sym (ap (λ n. is_some (get n q)) none ∙ ap is_some (get-empty key_cmp q)) ∙ here)

  -- ---- what is in both together

  in_first : (a b : FinMap {K = Key} key_cmp E) (q : Key) (e : E) → get a q ≡ Some e → get (union a b) q ≡ Some e
  in_first a b q e here = get_union a b q ∙ ap (λ o. or_else o (get b q)) here

  in_second : (a b : FinMap {K = Key} key_cmp E) (q : Key) → contains_key a q ≡ false → get (union a b) q ≡ get b q
  in_second a b q none = get_union a b q ∙ ap (λ o. or_else o (get b q)) (no_option (get a q) none)

  either_at : (x y : Option E) → is_some (or_else x y) ≡ true → (is_some x ≡ true) ⊎ (is_some y ≡ true)
  either_at None y here = inr here
  either_at (Some e) y here = inl refl

  in_either : (a b : FinMap {K = Key} key_cmp E) (q : Key) → contains_key (union a b) q ≡ true → (contains_key a q ≡ true) ⊎ (contains_key b q ≡ true)
  in_either a b q here = either_at (get a q) (get b q) (sym (ap is_some (get_union a b q)) ∙ here)

  first_of_either : (x y : Option E) → is_some x ≡ true → is_some (or_else x y) ≡ true
  first_of_either None y here = absurd (false≢true here)
  first_of_either (Some e) y here = refl

  second_of_either : (x y : Option E) → is_some y ≡ true → is_some (or_else x y) ≡ true
  second_of_either None y here = here
  second_of_either (Some e) y here = refl

  pub from_first : (a b : FinMap {K = Key} key_cmp E) (q : Key) → contains_key a q ≡ true → contains_key (union a b) q ≡ true
  from_first a b q here = ap is_some (get_union a b q) ∙ first_of_either (get a q) (get b q) here

  pub from_second : (a b : FinMap {K = Key} key_cmp E) (q : Key) → contains_key b q ≡ true → contains_key (union a b) q ≡ true
  from_second a b q here = ap is_some (get_union a b q) ∙ second_of_either (get a q) (get b q) here

  pub not_in_first : (a b : FinMap {K = Key} key_cmp E) (k : Key) → contains_key (union a b) k ≡ false → contains_key a k ≡ false
  not_in_first a b k new = not_in (contains_key a k) (λ here. false≢true (sym new ∙ from_first a b k here))

  pub not_in_second : (a b : FinMap {K = Key} key_cmp E) (k : Key) → contains_key (union a b) k ≡ false → contains_key b k ≡ false
  not_in_second a b k new = not_in (contains_key b k) (λ here. false≢true (sym new ∙ from_second a b k here))

  pub none_in_both : (a b : FinMap {K = Key} key_cmp E) → a ≡ empty → b ≡ empty → union a b ≡ empty
  none_in_both a b none none_too =
      same_map key_total key_exact _ _ (λ q.
      get_union a b q ∙ ap (λ m. or_else (get m q) (get b q)) none ∙ ap (λ o. or_else o (get b q)) (get-empty key_cmp q) ∙ ap (λ m. get m q) none_too)

  pub apart_from_none : (a b : FinMap {K = Key} key_cmp E) → a ≡ empty → AreApart a b
  apart_from_none a b none q here = absurd (false≢true (sym (ap (λ m. is_some (get m q)) none ∙ ap is_some (get-empty key_cmp q)) ∙ here))

  -- ---- an event more

  pub union_pushed_first : (a b : FinMap {K = Key} key_cmp E) (k : Key) (e : E) → union (insert a k e) b ≡ insert (union a b) k e
  union_pushed_first a b k e =
      same_map key_total key_exact _ _ (λ q.
      get_union (insert a k e) b q ∙ ap (λ o. or_else o (get b q)) (get-insert key_total a k e q) ∙ chosen (eq_by_cmp key_cmp q k) (get a q) (get b q)
      ∙ ap (cond (eq_by_cmp key_cmp q k) (Some e)) (sym (get_union a b q)) ∙ sym (get-insert key_total (union a b) k e q))
    where
      chosen : (t : Bool) (x y : Option E) → or_else (cond t (Some e) x) y ≡ cond t (Some e) (or_else x y)
      chosen true x y = refl
      chosen false x y = refl

  pub union_pushed_second : (a b : FinMap {K = Key} key_cmp E) (k : Key) (e : E) → contains_key a k ≡ false → union a (insert b k e) ≡ insert (union a b) k e
  union_pushed_second a b k e new =
      same_map key_total key_exact _ _ (λ q.
      get_union a (insert b k e) q ∙ ap (or_else (get a q)) (get-insert key_total b k e q) ∙ chosen q (eq_by_cmp key_cmp q k) refl (get b q)
      ∙ ap (cond (eq_by_cmp key_cmp q k) (Some e)) (sym (get_union a b q)) ∙ sym (get-insert key_total (union a b) k e q))
    where
      chosen : (q : Key) (t : Bool) → eq_by_cmp key_cmp q k ≡ t → (y : Option E) → or_else (get a q) (cond t (Some e) y) ≡ cond t (Some e) (or_else (get a q) y)
      chosen q true same y = ap (λ o. or_else o (Some e)) (no_option (get a q) (ap (λ r. contains_key a r) (tells q k same) ∙ new))
      chosen q false other y = refl

  pub apart_pushed_first : (a b : FinMap {K = Key} key_cmp E) (k : Key) (e : E) → AreApart a b → contains_key b k ≡ false → AreApart (insert a k e) b
  apart_pushed_first a b k e apart new = holds-with_events (λ r. contains_key b r ≡ false) ((k, e) ∷ []) a apart (new, tt)

  pub apart_pushed_second : (a b : FinMap {K = Key} key_cmp E) (k : Key) (e : E) → AreApart a b → contains_key a k ≡ false → AreApart a (insert b k e)
  apart_pushed_second a b k e apart new q here =
      not_in (contains_key (insert b k e) q) (λ there. holds-with_events (λ r. contains_key a r ≡ true → ⊥) ((k, e) ∷ []) b (λ r late first. false≢true (sym (apart r first) ∙ late))
      ((λ first. false≢true (sym new ∙ first)), tt) q there here)

  -- ---- an event less

  pub union_popped_first : (a b : FinMap {K = Key} key_cmp E) (k : Key) → contains_key b k ≡ false → union (remove a k) b ≡ remove (union a b) k
  union_popped_first a b k other =
      same_map key_total key_exact _ _ (λ q.
      get_union (remove a k) b q ∙ ap (λ o. or_else o (get b q)) (get-remove key_total a k q) ∙ chosen q (eq_by_cmp key_cmp q k) refl (get a q)
      ∙ ap (cond (eq_by_cmp key_cmp q k) None) (sym (get_union a b q)) ∙ sym (get-remove key_total (union a b) k q))
    where
      chosen : (q : Key) (t : Bool) → eq_by_cmp key_cmp q k ≡ t → (x : Option E) → or_else (cond t None x) (get b q) ≡ cond t None (or_else x (get b q))
      chosen q true same x = no_option (get b q) (ap (λ r. contains_key b r) (tells q k same) ∙ other)
      chosen q false differs x = refl

  pub union_popped_second : (a b : FinMap {K = Key} key_cmp E) (k : Key) → contains_key a k ≡ false → union a (remove b k) ≡ remove (union a b) k
  union_popped_second a b k other =
      same_map key_total key_exact _ _ (λ q.
      get_union a (remove b k) q ∙ ap (or_else (get a q)) (get-remove key_total b k q) ∙ chosen q (eq_by_cmp key_cmp q k) refl (get b q)
      ∙ ap (cond (eq_by_cmp key_cmp q k) None) (sym (get_union a b q)) ∙ sym (get-remove key_total (union a b) k q))
    where
      chosen : (q : Key) (t : Bool) → eq_by_cmp key_cmp q k ≡ t → (y : Option E) → or_else (get a q) (cond t None y) ≡ cond t None (or_else (get a q) y)
      chosen q true same y = ap (λ o. or_else o None) (no_option (get a q) (ap (λ r. contains_key a r) (tells q k same) ∙ other))
      chosen q false differs y = refl

  pub apart_popped_first : (a b : FinMap {K = Key} key_cmp E) (k : Key) → AreApart a b → AreApart (remove a k) b
  apart_popped_first a b k apart q here = apart q (contains-remove a k q here).0

  pub apart_popped_second : (a b : FinMap {K = Key} key_cmp E) (k : Key) → AreApart a b → AreApart a (remove b k)
  apart_popped_second a b k apart q here =
      not_in (contains_key (remove b k) q) (λ there. false≢true (sym (apart q here) ∙ (contains-remove b k q there).0))

  -- ---- the least of both

  no_key_before : (a b : FinMap {K = Key} key_cmp E) (k : Key) → NoneIsBefore a k → NoneIsBefore b k → NoneIsBefore (union a b) k
  no_key_before a b k first second q here = by_set (in_either a b q here)
    where
      by_set : (contains_key a q ≡ true) ⊎ (contains_key b q ≡ true) → ¬ (IsBefore q k)
      by_set (inl there) = first q there
      by_set (inr there) = second q there

  -- the first of one, if none of the other comes before it
  pub first_in_first : (a b : FinMap {K = Key} key_cmp E) (k : Key) (e : E) → IsFirst a k e → NoneIsBefore b k → IsFirst (union a b) k e
  first_in_first a b k e first none = record { here = in_first a b k e first.here; least = no_key_before a b k first.least none }

  pub first_in_second : (a b : FinMap {K = Key} key_cmp E) (k : Key) (e : E) → AreApart a b → IsFirst b k e → NoneIsBefore a k → IsFirst (union a b) k e
  first_in_second a b k e apart first none = record {
    here = in_second a b k (not_in (contains_key a k) (λ here. false≢true (sym (apart k here) ∙ ap is_some first.here))) ∙ first.here;
    least = no_key_before a b k none first.least;
  }

  pub apart_in_second : (a b : FinMap {K = Key} key_cmp E) (k : Key) (e : E) → AreApart a b → get b k ≡ Some e → contains_key a k ≡ false
  apart_in_second a b k e apart there = not_in (contains_key a k) (λ here. false≢true (sym (apart k here) ∙ ap is_some there))

  pub absent_in_second : (a b : FinMap {K = Key} key_cmp E) (k : Key) (e : E) → AreApart a b → IsFirst a k e → contains_key b k ≡ false
  absent_in_second a b k e apart first = apart k (ap is_some first.here)

  pub no_earlier : (m : FinMap {K = Key} key_cmp E) (k : Key) → NoneIsBefore m k → (q : Key) → contains_key m q ≡ true → k.at ≤ q.at
  no_earlier m k none q here = moments-from_not_before q k (none q here)

  -- none comes before what comes before a limit that none comes before
  pub none_before_lesser : (m : FinMap {K = Key} key_cmp E) (k limit : Key) → IsBefore k limit → NoneIsBefore m limit → NoneIsBefore m k
  none_before_lesser m k limit before none q there early = none q there (key_total.trans q k limit early before)

  pub none_below_in_both : (a b : FinMap {K = Key} key_cmp E) (limit : Key) (bound : ℕ) → NoneIsBefore a limit → NoneIsBefore b limit → bound ≤ limit.at → NoneIsBelow (union a b) bound
  none_below_in_both a b limit bound first second late q here = let after = moments-from_not_before q limit (no_key_before a b limit first second q here) in omega (arith, after, late)

  pub least_in_both : (a b : FinMap {K = Key} key_cmp E) (x y o : Option Key) → IfSome x (λ k. IsLeastKey a k) → IfSome y (λ k. IsLeastKey b k) → IfNone x (a ≡ empty) → IfNone y (b ≡ empty)
      → IfSome o (λ k. (x ≡ Some k) ⊎ (y ≡ Some k)) → IfSome o (λ k. IfSome x (λ l. ¬ (IsBefore l k))) → IfSome o (λ k. IfSome y (λ l. ¬ (IsBefore l k))) → IfSome o (λ k. IsLeastKey (union a b) k)
  least_in_both a b x y None of_a of_b no_a no_b one low low_too = tt
  least_in_both a b x y (Some k) of_a of_b no_a no_b one low low_too = record { here = at one; least = no_key_before a b k (none_of a x of_a no_a low) (none_of b y of_b no_b low_too) }
    where
      none_of : (m : FinMap {K = Key} key_cmp E) (l : Option Key) → IfSome l (λ k. IsLeastKey m k) → IfNone l (m ≡ empty) → IfSome l (λ l. ¬ (IsBefore l k)) → NoneIsBefore m k
      none_of m None least none below q here = absurd (false≢true (sym (ap (λ m. is_some (get m q)) none ∙ ap is_some (get-empty key_cmp q)) ∙ here))
      none_of m (Some l) least none below q here = not_before_through q l k (least.least q here) below

      at : (x ≡ Some k) ⊎ (y ≡ Some k) → contains_key (union a b) k ≡ true
      at (inl is) = from_first a b k (subst (λ o. IfSome o (λ l. IsLeastKey a l)) is of_a).here
      at (inr is) = from_second a b k (subst (λ o. IfSome o (λ l. IsLeastKey b l)) is of_b).here

  pub no_least_in_both : (a b : FinMap {K = Key} key_cmp E) (x y o : Option Key) → IfNone x (a ≡ empty) → IfNone y (b ≡ empty) → IfNone o ((x ≡ None) × (y ≡ None)) → IfNone o (union a b ≡ empty)
  no_least_in_both a b x y None no_a no_b none = none_in_both a b (subst (λ o. IfNone o (a ≡ empty)) none.0 no_a) (subst (λ o. IfNone o (b ≡ empty)) none.1 no_b)
  no_least_in_both a b x y (Some k) no_a no_b none = tt

  -- ---- pushes and pops, also those that were refused

  module _ (a a' b : FinMap {K = Key} key_cmp E) where
    pub apart_after_push : {A F : Type 0} (k : Key) (e : E) (pushed : Result A F) → OnOk pushed (a' ≡ insert a k e) → OnErr pushed (a' ≡ a) → AreApart a b → contains_key (union a b) k ≡ false → AreApart a' b
    apart_after_push k e (Ok _) is same apart new = subst (λ m. AreApart m b) (sym is) (apart_pushed_first a b k e apart (not_in_second a b k new))
    apart_after_push k e (Err _) is same apart new = subst (λ m. AreApart m b) (sym same) apart

    pub all_after_push : {A F : Type 0} (k : Key) (e : E) (pushed : Result A F) → OnOk pushed (a' ≡ insert a k e) → OnOk pushed (union a' b ≡ insert (union a b) k e)
    all_after_push k e (Ok _) is = ap (λ m. union m b) is ∙ union_pushed_first a b k e
    all_after_push k e (Err _) is = tt

  module _ (a b b' : FinMap {K = Key} key_cmp E) where
    pub apart_after_late_push : {A F : Type 0} (k : Key) (e : E) (pushed : Result A F) → OnOk pushed (b' ≡ insert b k e) → OnErr pushed (b' ≡ b) → AreApart a b → contains_key (union a b) k ≡ false → AreApart a b'
    apart_after_late_push k e (Ok _) is same apart new = subst (AreApart a) (sym is) (apart_pushed_second a b k e apart (not_in_first a b k new))
    apart_after_late_push k e (Err _) is same apart new = subst (AreApart a) (sym same) apart

    pub all_after_late_push : {A F : Type 0} (k : Key) (e : E) (pushed : Result A F) → OnOk pushed (b' ≡ insert b k e) → contains_key (union a b) k ≡ false → OnOk pushed (union a b' ≡ insert (union a b) k e)
    all_after_late_push k e (Ok _) is new = ap (union a) is ∙ union_pushed_second a b k e (not_in_first a b k new)
    all_after_late_push k e (Err _) is new = tt

  -- ---- a moment that none comes before

  none_before_pushed : (b : FinMap {K = Key} key_cmp E) (k : Key) (e : E) (from least : ℕ) → least ≤ from → least ≤ k.at → NoneIsBelow b from
      → (q : Key) (same : Bool) → eq_by_cmp key_cmp q k ≡ same → is_some (cond same (Some e) (get b q)) ≡ true → least ≤ q.at
  none_before_pushed b k e from least low at none q true is here = let moment : q.at ≡ k.at = ap (λ (r : Key). r.at) (tells q k is) in omega (arith, at)
  none_before_pushed b k e from least low at none q false is here = let late : from ≤ q.at = none q here in omega (arith, low)

  -- after a push, also one that was refused
  pub none_below_pushed : {A F : Type 0} (b b' : FinMap {K = Key} key_cmp E) (k : Key) (e : E) (from least : ℕ) (pushed : Result A F) → OnOk pushed (b' ≡ insert b k e) → OnErr pushed (b' ≡ b)
      → least ≤ from → least ≤ k.at → NoneIsBelow b from → NoneIsBelow b' least
  none_below_pushed b b' k e from least (Ok _) is same low at none q here =
      none_before_pushed b k e from least low at none q (eq_by_cmp key_cmp q k) refl (sym (ap (λ m. is_some (get m q)) is ∙ ap is_some (get-insert key_total b k e q)) ∙ here)
  none_below_pushed b b' k e from least (Err _) is same low at none q here =
      let late : from ≤ q.at = none q (sym (ap (λ m. is_some (get m q)) same) ∙ here) in omega (arith, low)

  -- ---- how many there are

  pub none_to_count : (m : FinMap {K = Key} key_cmp E) → m ≡ empty → 0 ≡ len m
  none_to_count m none = sym (ap len none ∙ len-empty key_cmp E)

  pub one_more : (m n : FinMap {K = Key} key_cmp E) (k : Key) (e : E) (count : ℕ) → n ≡ insert m k e → contains_key m k ≡ false → count ≡ len m → count + 1 ≡ len n
  one_more m n k e count is new counted = ap (λ c. c + 1) counted ∙ sym (ap len is ∙ len-insert key_total m k e ∙ ap (λ b. cond b (len m) (len m + 1)) new)

  pub one_less : (m n : FinMap {K = Key} key_cmp E) (k : Key) (e : E) (count : ℕ) → n ≡ remove m k → get m k ≡ Some e → count ≡ len m → count - 1 ≡ len n
  one_less m n k e count is here counted = ap (λ c. c - 1) counted ∙ sym (ap len is ∙ len-remove key_total m k ∙ ap (λ b. cond b (len m - 1) (len m)) (ap is_some here))

  pub some_left : (m : FinMap {K = Key} key_cmp E) (k : Key) (count : ℕ) → contains_key m k ≡ true → count ≡ len m → 0 < count
  some_left m k zero here counted = absurd (not_in_empty m k (empty_of_len m (sym counted)) here)
  some_left m k (suc count) here counted = omega arith

  -- the same of what a pop gave
  pub one_less_popped : (key : E → Key) (m n : FinMap {K = Key} key_cmp E) (popped : Option E) (count : ℕ) → is_some popped ≡ true → IfSome popped (λ e. IsFirst m (key e) e) → IfSome popped (λ e. n ≡ remove m (key e)) → count ≡ len m
      → count - 1 ≡ len n
  one_less_popped key m n None count some first taken counted = absurd (false≢true some)
  one_less_popped key m n (Some e) count some first taken counted = one_less m n (key e) e count taken first.here counted

-- Lists of events as sets.
use Rattle.std.proofs.Common.{◌≡◌, IsTrue, ℕ, zero, suc, ◌+◌, ◌<◌, ◌≤◌, ◌⊎◌, Bool, true, false, cond, List, [], ◌∷◌, ◌++◌, map, length, get_or, count_by, Option, Some, None, IfSome, IsPermutation, All, Any, Contains, ap, ◌∙◌, sym, subst, refl, inl, inr, arith}
use Rattle.std.specs.Option.{is_some}
use Rattle.std.specs.Ordering.{eq_by_cmp, is_lt, is_eq, nat_cmp, ordering_then, ordering_reverse, MatchOrdering}
use Rattle.std.specs.declared.cmp.Ordering.{Ordering}
use Rattle.std.specs.declared.cmp.Ordering.TheVariants.{Less, Equal, Greater}
use Rattle.std.specs.Cmp.{IsStrictWeakOrder, tied_itself, ranks}
use Rattle.std.specs.FinMap.{FinMap, from_entries, empty, get, contains_key, insert, remove, find, get-from_entries, get-insert, get-remove, get-empty, same_map, from_entries_push}
use Rattle.std.proofs.lemmas.Bool.{false≢true, cases_order}
use Rattle.std.proofs.lemmas.Option.{same_Some}
use Rattle.std.proofs.lemmas.List.{map_push, get_or_at, length_push}
use Rattle.std.proofs.lemmas.List.Sums.{sum_by-cons, sum_by_push}
use Rattle.std.proofs.lemmas.List.Sorted.{ranks_by, IsStrictWeakOrder-flip, sorted_far, Contains-permutation, sum_by-IsPermutation}
use Rattle.std.proofs.lemmas.List.Elements.{All-contains}
use Rattle.base.specs.declared.key.Key.{Key}
use Rattle.base.specs.Order.{key_cmp, key_total, key_exact, IsBefore, moments-from_before}
use Rattle.base.specs.Run.{IsFirst, tells}
use Rattle.worker_queue.specs.Queue.{IsLeastKey}
use Rattle.worker_queue.specs.Slots.{by_key, AreUnlike, AreFalling}

-- Of three keys: the first isn't before the second, nor that before the third.
pub not_before_through : (a b c : Key) → ¬ (IsBefore a b) → ¬ (IsBefore b c) → ¬ (IsBefore a c)
not_before_through a b c first second before = by_order (key_cmp b a) refl
  where
    by_order : (o : Ordering) → key_cmp b a ≡ o → ⊥
    by_order Less is = second (key_total.trans b a c is before)
    by_order Equal is = second (subst (λ k. IsBefore k c) (sym (key_exact b a is)) before)
    by_order Greater is = first (key_total.antisymm a b ∙ ap ordering_reverse is)

pub before_itself : (k : Key) → ¬ (IsBefore k k)
before_itself k before = cc (tied_itself key_total k)

pub not_both : (a b : Key) → IsBefore a b → ¬ (IsBefore b a)
not_both a b before after = cc (key_total.antisymm a b, before, after)

nothing_below : (m : ℕ) (r o : Ordering) → MatchOrdering o (m < 0) (m ≡ 0) (0 < m) → ordering_then o r ≡ Less → r ≡ Less
nothing_below m r Less h e = absurd (omega arith)
nothing_below m r Equal h e = e
nothing_below m r Greater h e = cc

less : (m : ℕ) (o : Ordering) → MatchOrdering o (m < 0) (m ≡ 0) (0 < m) → o ≡ Less → m < 0
less m Less h e = h
less m Equal h e = cc
less m Greater h e = cc

at_same : (m n : ℕ) (r : Ordering) → m ≡ n → ordering_then (nat_cmp m n) r ≡ Less → r ≡ Less
at_same m n r same e = by_order (nat_cmp m n) (ranks m n) e
  where
    by_order : (o : Ordering) → MatchOrdering o (m < n) (m ≡ n) (n < m) → ordering_then o r ≡ Less → r ≡ Less
    by_order Less h is = absurd (omega arith)
    by_order Equal h is = is
    by_order Greater h is = cc

-- what comes before the least key of a moment has an earlier moment
pub earlier-from_before_first : (q : Key) (at : ℕ) → IsBefore q (record { at = at; to = 0; from = 0; number = 0 }) → q.at < at
unfolding key_cmp
earlier-from_before_first q at before = by_moment (cases_order q.at at)
  where
    by_moment : (q.at ≡ at) ⊎ ((q.at < at) ⊎ (at < q.at)) → q.at < at
    by_moment (inr (inl h)) = h
    by_moment (inr (inr h)) = absurd (let late = moments-from_before q (record { at = at; to = 0; from = 0; number = 0 }) before in omega arith)
    by_moment (inl same) =
        let a = at_same q.at at (ordering_then (nat_cmp q.to 0) (ordering_then (nat_cmp q.from 0) (nat_cmp q.number 0))) same before in
        let b = nothing_below q.to (ordering_then (nat_cmp q.from 0) (nat_cmp q.number 0)) (nat_cmp q.to 0) (ranks q.to 0) a in
        let c = nothing_below q.from (nat_cmp q.number 0) (nat_cmp q.from 0) (ranks q.from 0) b in
        absurd (let h : q.number < 0 = less q.number (nat_cmp q.number 0) (ranks q.number 0) c in omega arith)

-- what is put in and taken out again
pub remove-insert : {E : Type 0} (m : FinMap key_cmp E) (k : Key) (e : E) → contains_key m k ≡ false → remove (insert m k e) k ≡ m
remove-insert {E} m k e new =
    same_map key_total key_exact _ _ (λ q. get-remove key_total (insert m k e) k q ∙ ap (cond (eq_by_cmp key_cmp q k) None) (get-insert key_total m k e q) ∙ by_test q (eq_by_cmp key_cmp q k) refl)
  where
    none : (o : Option E) → is_some o ≡ false → None ≡ o
    none None is = refl
    none (Some x) is = absurd (false≢true (sym is))

    by_test : (q : Key) (b : Bool) → eq_by_cmp key_cmp q k ≡ b → cond b None (cond b (Some e) (get m q)) ≡ get m q
    by_test q true same = none (get m q) (ap (λ r. is_some (get m r)) (tells q k same) ∙ new)
    by_test q false other = refl

module _ {E : Type 0} (key : E → Key) where
  -- the greatest key first
  pub falls : IsStrictWeakOrder (λ (a b : E). is_lt (key_cmp (key b) (key a)))
  falls = IsStrictWeakOrder-flip (λ a b. is_lt (key_cmp (key a) (key b))) (ranks_by key_total key)

  -- the event of a list with this key
  abbrev pub found : List E → Key → Option E
  found events q = find key_cmp q (map (λ e. (key e, e)) events)

  -- how many events of a list have this key
  abbrev pub counted : List E → Key → ℕ
  counted events q = count_by (λ e. eq_by_cmp key_cmp q (key e)) events

  pub get-by_key : (events : List E) (q : Key) → get (by_key key events) q ≡ found events q
  get-by_key events q = get-from_entries key_total (map (λ e. (key e, e)) events) q

  counted-cons : (e : E) (events : List E) (q : Key) → counted (e ∷ events) q ≡ cond (eq_by_cmp key_cmp q (key e)) 1 0 + counted events q
  counted-cons e events q = sum_by-cons (λ x. cond (eq_by_cmp key_cmp q (key x)) 1 0) e events

  -- ---- what is found, and how often

  at_front : (e : E) (events : List E) (q : Key) (b : Bool) → eq_by_cmp key_cmp q (key e) ≡ b → (found (e ∷ events) q ≡ cond b (Some e) (found events q)) × (counted (e ∷ events) q ≡ cond b 1 0 + counted events q)
  at_front e events q b is =
      (ap (λ b. cond b (Some e) (found events q)) is, counted-cons e events q ∙ ap (λ b. cond b 1 0 + counted events q) is)

  pub itself : (k : Key) → eq_by_cmp key_cmp k k ≡ true
  itself k = ap is_eq (tied_itself key_total k)

  none_counted_at : (e : E) (events : List E) (q : Key) (b : Bool) → eq_by_cmp key_cmp q (key e) ≡ b → (found events q ≡ None → counted events q ≡ 0) → found (e ∷ events) q ≡ None → counted (e ∷ events) q ≡ 0
  none_counted_at e events q true is rest none = absurd (false≢true (sym (ap is_some (sym (at_front e events q true is).0 ∙ none))))
  none_counted_at e events q false is rest none =
      let none_later : counted events q ≡ 0 = rest (sym (at_front e events q false is).0 ∙ none) in
      let all = (at_front e events q false is).1 in
      omega arith

  none_counted : (events : List E) (q : Key) → found events q ≡ None → counted events q ≡ 0
  none_counted [] q none = refl
  none_counted (e ∷ events) q none = none_counted_at e events q (eq_by_cmp key_cmp q (key e)) refl (none_counted events q) none

  none_found_at : (e : E) (events : List E) (q : Key) (b : Bool) → eq_by_cmp key_cmp q (key e) ≡ b → (counted events q ≡ 0 → found events q ≡ None) → counted (e ∷ events) q ≡ 0 → found (e ∷ events) q ≡ None
  none_found_at e events q true is rest none = let all = (at_front e events q true is).1 in absurd (omega arith)
  none_found_at e events q false is rest none =
      let all = (at_front e events q false is).1 in
      (at_front e events q false is).0 ∙ rest (omega arith)

  pub none_found : (events : List E) (q : Key) → counted events q ≡ 0 → found events q ≡ None
  none_found [] q none = refl
  none_found (e ∷ events) q none = none_found_at e events q (eq_by_cmp key_cmp q (key e)) refl (none_found events q) none

  later : (x : E) (events : List E) (e : E) → Contains events e → Contains (x ∷ events) e
  later x events e (k, within, at) = (suc k, omega arith, at)

  found_is_at : (x : E) (events : List E) (q : Key) (e : E) (b : Bool) → eq_by_cmp key_cmp q (key x) ≡ b → (found events q ≡ Some e → Contains events e × (key e ≡ q)) → found (x ∷ events) q ≡ Some e
      → Contains (x ∷ events) e × (key e ≡ q)
  found_is_at x events q e true is rest here =
      let same : x ≡ e = same_Some x e (sym (at_front x events q true is).0 ∙ here) in
      ((0, omega arith, same), ap key (sym same) ∙ sym (tells q (key x) is))
  found_is_at x events q e false is rest here = let there = rest (sym (at_front x events q false is).0 ∙ here) in (later x events e there.0, there.1)

  -- an event that is found is in the list, and has that key
  pub found_is : (events : List E) (q : Key) (e : E) → found events q ≡ Some e → Contains events e × (key e ≡ q)
  found_is [] q e here = absurd (false≢true (ap is_some here))
  found_is (x ∷ events) q e here = found_is_at x events q e (eq_by_cmp key_cmp q (key x)) refl (found_is events q e) here

  pub counted_here : (events : List E) (e : E) → Contains events e → 1 ≤ counted events (key e)
  counted_here [] e (k, within, at) = absurd (omega arith)
  counted_here (x ∷ events) e (zero, within, at) =
      let all = (at_front x events (key e) true (ap (λ y. eq_by_cmp key_cmp (key e) (key y)) at ∙ itself (key e))).1 in omega arith
  counted_here (x ∷ events) e (suc k, within, at) =
      let some : 1 ≤ counted events (key e) = counted_here events e (k, omega arith, at) in
      let all = counted-cons x events (key e) in
      omega arith

  pub unlike_rest : (x : E) (events : List E) → AreUnlike key (x ∷ events) → AreUnlike key events
  unlike_rest x events unlike q =
      let one : counted (x ∷ events) q ≤ 1 = unlike q in
      let all = counted-cons x events q in
      omega arith

  -- what stands before a list with no two alike isn't in it
  pub none_in_rest : (x : E) (events : List E) → AreUnlike key (x ∷ events) → counted events (key x) ≡ 0
  none_in_rest x events unlike =
      let one : counted (x ∷ events) (key x) ≤ 1 = unlike (key x) in
      let all = (at_front x events (key x) true (itself (key x))).1 in
      omega arith

  is_found_at : (x : E) (events : List E) (e : E) (b : Bool) → eq_by_cmp key_cmp (key e) (key x) ≡ b → AreUnlike key (x ∷ events) → Contains events e → found events (key e) ≡ Some e → found (x ∷ events) (key e) ≡ Some e
  is_found_at x events e true is unlike there rest =
      let one : counted (x ∷ events) (key e) ≤ 1 = unlike (key e) in
      let all = (at_front x events (key e) true is).1 in
      let some = counted_here events e there in
      absurd (omega arith)
  is_found_at x events e false is unlike there rest = (at_front x events (key e) false is).0 ∙ rest

  -- of a list with no two alike each event is found
  pub is_found : (events : List E) (e : E) → AreUnlike key events → Contains events e → found events (key e) ≡ Some e
  is_found [] e unlike (k, within, at) = absurd (omega arith)
  is_found (x ∷ events) e unlike (zero, within, at) =
      (at_front x events (key e) true (ap (λ y. eq_by_cmp key_cmp (key e) (key y)) at ∙ itself (key e))).0 ∙ ap Some at
  is_found (x ∷ events) e unlike (suc k, within, at) =
      let there : Contains events e = (k, omega arith, at) in
      is_found_at x events e (eq_by_cmp key_cmp (key e) (key x)) refl unlike there (is_found events e (unlike_rest x events unlike) there)

  -- a key of the set is that of an event of the list
  pub one_with : (events : List E) (q : Key) → contains_key (by_key key events) q ≡ true → (e : E) × Contains events e × (key e ≡ q)
  one_with events q here = by_option (found events q) refl
    where
      by_option : (o : Option E) → found events q ≡ o → (e : E) × Contains events e × (key e ≡ q)
      by_option None is = absurd (false≢true (ap is_some (sym is) ∙ sym (ap is_some (get-by_key events q)) ∙ here))
      by_option (Some e) is = let there = found_is events q e is in (e, there.0, there.1)

  -- ---- a list in another order

  pub unlike_moved : (xs ys : List E) → IsPermutation xs ys → AreUnlike key xs → AreUnlike key ys
  unlike_moved xs ys moved unlike q =
      let same : counted ys q ≡ counted xs q = sum_by-IsPermutation (λ e. cond (eq_by_cmp key_cmp q (key e)) 1 0) xs ys moved in
      let one : counted xs q ≤ 1 = unlike q in
      omega arith

  found_moved : (xs ys : List E) → IsPermutation xs ys → AreUnlike key xs → (q : Key) (o : Option E) → found xs q ≡ o → found ys q ≡ o
  found_moved xs ys moved unlike q None none =
      none_found ys q (sum_by-IsPermutation (λ e. cond (eq_by_cmp key_cmp q (key e)) 1 0) xs ys moved ∙ none_counted xs q none)
  found_moved xs ys moved unlike q (Some e) here =
      let is = found_is xs q e here in
      ap (found ys) (sym is.1) ∙ is_found ys e (unlike_moved xs ys moved unlike) (Contains-permutation xs ys e moved is.0)

  pub by_key-moved : (xs ys : List E) → IsPermutation xs ys → AreUnlike key xs → by_key key ys ≡ by_key key xs
  by_key-moved xs ys moved unlike =
      same_map key_total key_exact _ _ (λ q. get-by_key ys q ∙ found_moved xs ys moved unlike q (found xs q) refl ∙ sym (get-by_key xs q))

  -- ---- an event more

  no_option : (o : Option E) → is_some o ≡ false → o ≡ None
  no_option None none = refl
  no_option (Some x) none = absurd (false≢true (sym none))

  not_found : (events : List E) (e : E) → contains_key (by_key key events) (key e) ≡ false → found events (key e) ≡ None
  not_found events e new = no_option (found events (key e)) (ap is_some (sym (get-by_key events (key e))) ∙ new)

  pub by_key-push : (events : List E) (e : E) → contains_key (by_key key events) (key e) ≡ false → by_key key (events ++ e ∷ []) ≡ insert (by_key key events) (key e) e
  by_key-push events e new =
      ap from_entries (map_push (λ x. (key x, x)) events e) ∙ from_entries_push key_total key_exact (map (λ x. (key x, x)) events) (key e) e (not_found events e new)

  one_more : (events : List E) (e : E) (q : Key) (b : Bool) → eq_by_cmp key_cmp q (key e) ≡ b → AreUnlike key events → counted events (key e) ≡ 0 → counted (events ++ e ∷ []) q ≤ 1
  one_more events e q true is unlike none =
      let all : counted (events ++ e ∷ []) q ≡ counted events q + 1 = sum_by_push (λ x. cond (eq_by_cmp key_cmp q (key x)) 1 0) events e ∙ ap (λ b. counted events q + cond b 1 0) is in
      let none_here : counted events q ≡ 0 = ap (counted events) (tells q (key e) is) ∙ none in
      omega arith
  one_more events e q false is unlike none =
      let all : counted (events ++ e ∷ []) q ≡ counted events q + 0 = sum_by_push (λ x. cond (eq_by_cmp key_cmp q (key x)) 1 0) events e ∙ ap (λ b. counted events q + cond b 1 0) is in
      let one : counted events q ≤ 1 = unlike q in
      omega arith

  pub unlike_push : (events : List E) (e : E) → AreUnlike key events → contains_key (by_key key events) (key e) ≡ false → AreUnlike key (events ++ e ∷ [])
  unlike_push events e unlike new q = one_more events e q (eq_by_cmp key_cmp q (key e)) refl unlike (none_counted events (key e) (not_found events e new))

  -- ---- the last event less

  counted_front : (ys : List E) (e : E) (q : Key) → counted (ys ++ e ∷ []) q ≡ counted ys q + cond (eq_by_cmp key_cmp q (key e)) 1 0
  counted_front ys e q = sum_by_push (λ x. cond (eq_by_cmp key_cmp q (key x)) 1 0) ys e

  not_in_front : (xs ys : List E) (e : E) → xs ≡ ys ++ e ∷ [] → AreUnlike key xs → found ys (key e) ≡ None
  not_in_front xs ys e is unlike =
      let one : counted (ys ++ e ∷ []) (key e) ≤ 1 = subst (λ l. counted l (key e) ≤ 1) is (unlike (key e)) in
      let all : counted (ys ++ e ∷ []) (key e) ≡ counted ys (key e) + 1 = counted_front ys e (key e) ∙ ap (λ b. counted ys (key e) + cond b 1 0) (itself (key e)) in
      none_found ys (key e) (omega arith)

  new_in_front : (xs ys : List E) (e : E) → xs ≡ ys ++ e ∷ [] → AreUnlike key xs → contains_key (by_key key ys) (key e) ≡ false
  new_in_front xs ys e is unlike = ap is_some (get-by_key ys (key e) ∙ not_in_front xs ys e is unlike)

  pub with_last : (xs ys : List E) (e : E) → xs ≡ ys ++ e ∷ [] → AreUnlike key xs → by_key key xs ≡ insert (by_key key ys) (key e) e
  with_last xs ys e is unlike = ap (by_key key) is ∙ by_key-push ys e (new_in_front xs ys e is unlike)

  not_less : (a b : Key) → is_lt (key_cmp a b) ≡ false → ¬ (IsBefore a b)
  not_less a b not before = false≢true (sym not ∙ ap is_lt before)

  pub not_before_last : (xs ys : List E) (e : E) → xs ≡ ys ++ e ∷ [] → AreFalling key xs → (q : Key) → (x : E) × Contains xs x × (key x ≡ q) → ¬ (IsBefore q (key e))
  not_before_last xs ys e is falling q (x, (k, within, at), own) =
      let long : length xs ≡ length ys + 1 = ap length is ∙ length_push ys e in
      let last : get_or xs (length ys) x ≡ e = ap (λ l. get_or l (length ys) x) is ∙ get_or_at ys e [] x (length ys) refl in
      let ordered = sorted_far (λ a b. is_lt (key_cmp (key b) (key a))) falls xs falling k (length ys) x (omega arith) (omega arith) in
      let low : is_lt (key_cmp q (key e)) ≡ false = ap (λ r. is_lt (key_cmp r (key e))) (sym (ap key at ∙ own)) ∙ ap (λ y. is_lt (key_cmp (key (get_or xs k x)) (key y))) (sym last) ∙ ordered in
      not_less q (key e) low

  pub last_first : (xs ys : List E) (e : E) → xs ≡ ys ++ e ∷ [] → AreUnlike key xs → AreFalling key xs → IsFirst (by_key key xs) (key e) e
  last_first xs ys e is unlike falling = record {
    here = ap (λ m. get m (key e)) (with_last xs ys e is unlike) ∙ get-insert key_total (by_key key ys) (key e) e (key e) ∙ ap (λ b. cond b (Some e) (get (by_key key ys) (key e))) (itself (key e));
    least = λ q here. not_before_last xs ys e is falling q (one_with xs q here);
  }

  pub set_empty : (events : List E) → events ≡ [] → by_key key events ≡ empty
  set_empty events is = ap (by_key key) is

  pub list_empty : (events : List E) → by_key key events ≡ empty → events ≡ []
  list_empty [] none = refl
  list_empty (e ∷ events) none =
      let here : found (e ∷ events) (key e) ≡ Some e = ap (λ b. cond b (Some e) (found events (key e))) (itself (key e)) in
      absurd (false≢true (sym (ap is_some (sym here ∙ sym (get-by_key (e ∷ events) (key e)) ∙ ap (λ m. get m (key e)) none ∙ get-empty key_cmp (key e)))))

  pub some_key : (events : List E) → ¬ (events ≡ []) → (k : Key) × (contains_key (by_key key events) k ≡ true)
  some_key [] some = absurd (some refl)
  some_key (e ∷ events) some =
      let here : found (e ∷ events) (key e) ≡ Some e = ap (λ b. cond b (Some e) (found events (key e))) (itself (key e)) in
      (key e, ap is_some (get-by_key (e ∷ events) (key e) ∙ here))

  pub least_of_list : (events : List E) (least : Option Key) → AreUnlike key events → IfSome least (λ k. Any (λ e. key e ≡ k) events) → IfSome least (λ k. All (λ e. is_lt (key_cmp (key e) k) ≡ false) events)
      → IfSome least (λ k. IsLeastKey (by_key key events) k)
  least_of_list events None unlike here low = tt
  least_of_list events (Some k) unlike (n, e, within, at, own) low = record {
    here = ap (contains_key (by_key key events)) (sym own) ∙ ap is_some (get-by_key events (key e) ∙ is_found events e unlike (n, within, at));
    least = λ q there.
        let one = one_with events q there in
        not_less q k (ap (λ r. is_lt (key_cmp r k)) (sym one.2) ∙ All-contains (λ x. is_lt (key_cmp (key x) k) ≡ false) events one.0 low one.1);
  }

pub less_is : (o : Ordering) (b : Bool) → b ≡ is_lt o → (IsTrue b → o ≡ Less) × (o ≡ Less → IsTrue b)
less_is Less b is = (λ h. refl, λ h. is)
less_is Equal b is = (λ h. absurd (false≢true (sym is ∙ h)), λ h. cc)
less_is Greater b is = (λ h. absurd (false≢true (sym is ∙ h)), λ h. cc)

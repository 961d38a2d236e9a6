-- A tree of events as a set.
use Rattle.std.proofs.Common.{◌≡◌, ℕ, ◌+◌, ◌≤◌, ◌<◌, Bool, true, false, cond, List, [], ◌∷◌, Option, Some, None, Ok, Err, Result, OnOk, OnErr, IfSome, IsSomeAnd, IsTrue, nat_eq, length, ap, ◌∙◌, sym, refl, arith}
use Rattle.std.specs.Option.{is_some, IsSome, IfNone}
use Rattle.std.specs.List.{AllByRecursion}
use Rattle.std.specs.List.Sorted.{IsStrictlySortedBy}
use Rattle.std.specs.Ordering.{is_eq, is_gt, is_le, nat_cmp, MatchOrdering}
use Rattle.std.specs.Cmp.{ranks}
use Rattle.std.specs.FinMap.{FinMap, from_entries, empty, get, insert, len, contains_key, len-insert, len-empty, get-empty, empty_of_len}
use Rattle.std.specs.BTreeMap.{BTreeMap, is_at, IsUnchanged, Updates}
use Rattle.std.specs.Map.{keys_of}
use Rattle.std.proofs.lemmas.Bool.{false≢true, eqb-true, eq-eqb}
use Rattle.std.proofs.lemmas.Option.{same_Some}
use Rattle.std.specs.declared.cmp.Ordering.{Ordering}
use Rattle.std.specs.declared.cmp.Ordering.TheVariants.{Less, Equal, Greater}
use Rattle.base.specs.declared.key.Key.{Key}
use Rattle.base.specs.Order.{key_cmp, key_total, moments-from_not_before, same_key}
use Rattle.base.specs.Run.{IsFirst, tells}
use Rattle.base.proofs.Trees.{found, get-entries, none_before}
use Rattle.worker_queue.specs.Queue.{IsLeastKey, NoneIsBelow}
use Rattle.worker_queue.specs.Tree.{IsKeyed}

module _ {E : Type 0} where
  module _ (key : E → Key) (m n : BTreeMap Key E) where
    keyed_at : (k q : Key) (now : Option E) (event : E) (b : Bool) → is_at (key_cmp k) q ≡ b → IsKeyed key m → ((e : E) → now ≡ Some e → key e ≡ k)
        → cond b now (found key_cmp m.entries q) ≡ Some event → key event ≡ q
    keyed_at k q now event true same keyed own here = own event here ∙ tells k q same
    keyed_at k q now event false other keyed own here = keyed q event here

    -- a change that puts an event under its own key, or takes one out, leaves all under their own
    keyed_changed : (k : Key) (now : Option E) → IsKeyed key m → ((e : E) → now ≡ Some e → key e ≡ k)
        → ((q : Key) → found key_cmp n.entries q ≡ cond (is_at (key_cmp k) q) now (found key_cmp m.entries q)) → IsKeyed key n
    keyed_changed k now keyed own changed q event here = keyed_at k q now event (is_at (key_cmp k) q) refl keyed own (sym (changed q) ∙ here)

    keyed_same : IsKeyed key m → n.entries ≡ m.entries → IsKeyed key n
    keyed_same keyed same q event here = keyed q event (ap (λ es. found key_cmp es q) (sym same) ∙ here)

    pub keyed_taken : (k : Key) → IsKeyed key m → ((q : Key) → found key_cmp n.entries q ≡ cond (is_at (key_cmp k) q) None (found key_cmp m.entries q)) → IsKeyed key n
    keyed_taken k keyed changed = keyed_changed k None keyed (λ e is. absurd (false≢true (ap is_some is))) changed

    -- an insert, also one that was refused
    pub keyed_inserted : {A F : Type 0} (event : E) (k : Key) (result : Result A F) → IsKeyed key m → key event ≡ k → OnOk result (Updates key_cmp m n k (Some event)) → OnErr result (IsUnchanged m n)
        → IsKeyed key n
    keyed_inserted event k (Ok _) keyed own changed same = keyed_changed k (Some event) keyed (λ e is. ap key (sym (same_Some event e is)) ∙ own) changed.0
    keyed_inserted event k (Err _) keyed own changed same = keyed_same keyed same

    -- a pop, also one of an empty tree
    pub keyed_popped : (popped : Option (Key × E)) → IsKeyed key m → IfSome popped (λ p. Updates key_cmp m n p.0 None) → IfNone popped (IsUnchanged m n) → IsKeyed key n
    keyed_popped None keyed changed same = keyed_same keyed same
    keyed_popped (Some p) keyed changed same = keyed_taken p.0 keyed changed.0

  none_found : (q : Key) (es : List (Key × E)) → AllByRecursion (λ k. key_cmp q k ≡ Less) (keys_of es) → found key_cmp es q ≡ None
  none_found q [] below = refl
  none_found q (e ∷ es) below = ap (λ o. cond (is_eq o) (Some e.1) (found key_cmp es q)) below.0 ∙ none_found q es below.1

  -- the set is as large as the tree
  pub len-from_entries : (es : List (Key × E)) → IsStrictlySortedBy key_cmp (keys_of es) → len (from_entries {R = key_cmp} es) ≡ length es
  unfolding IsStrictlySortedBy
  len-from_entries [] sorted = len-empty key_cmp E
  len-from_entries (e ∷ es) sorted =
      let rest : FinMap key_cmp E = from_entries es in
      let so_far : len rest ≡ length es = len-from_entries es sorted.1 in
      let new : contains_key rest e.0 ≡ false = ap is_some (get-entries key_total es e.0 ∙ none_found e.0 es sorted.0) in
      let one : len (insert rest e.0 e.1) ≡ len rest + 1 = len-insert key_total rest e.0 e.1 ∙ ap (λ b. cond b (len rest) (len rest + 1)) new in
      omega (arith, so_far, one)

  module _ (es : List (Key × E)) where
    abbrev events : FinMap key_cmp E
    events = from_entries es

    -- what a tree finds, and has no key before
    pub first_of : (k : Key) (event : E) → found key_cmp es k ≡ Some event → ((q : Key) → IsSome (found key_cmp es q) → is_gt (key_cmp k q) ≡ false) → IsFirst events k event
    first_of k event here least = record { here = get-entries key_total es k ∙ here; least = none_before key_total es k least }

    pub least_of : (k : Key) (event : E) → found key_cmp es k ≡ Some event → ((q : Key) → IsSome (found key_cmp es q) → is_gt (key_cmp k q) ≡ false) → IsLeastKey events k
    least_of k event here least = record { here = ap is_some (get-entries key_total es k ∙ here); least = none_before key_total es k least }

    pub none_below_least : (k : Key) (bound : ℕ) → IsLeastKey events k → bound ≤ k.at → NoneIsBelow events bound
    none_below_least k bound is late q here = let after = moments-from_not_before q k (is.least q here) in omega arith

    -- what a tree finds, and has no key before, is what its least event is
    pub same_least : (k l : Key) (event : E) → IsLeastKey events k → IsFirst events l event → k ≡ l
    same_least k l event a b = same_key k l (b.least k a.here) (a.least l (ap is_some b.here))

  pub none_in_empty : (set : FinMap key_cmp E) (bound : ℕ) → set ≡ empty → NoneIsBelow set bound
  none_in_empty set bound none q here = absurd (false≢true (sym (ap (λ m. is_some (get m q)) none ∙ ap is_some (get-empty key_cmp q)) ∙ here))

  pub no_entries : (es : List (Key × E)) → (0 < length es → false ≡ true) → es ≡ []
  no_entries [] none = refl
  no_entries (e ∷ es) none = absurd (false≢true (none (omega arith)))

  -- no events, by their count
  pub empty_by_len : (set : FinMap key_cmp E) (count : ℕ) → count ≡ len set → (IsTrue (nat_eq count 0) → set ≡ empty) × (set ≡ empty → IsTrue (nat_eq count 0))
  empty_by_len set count is = (λ none. empty_of_len set (sym is ∙ eqb-true count 0 none), λ none. eq-eqb count 0 (is ∙ ap len none ∙ len-empty key_cmp E))

at_most : (a b : ℕ) (o : Ordering) → MatchOrdering o (a < b) (a ≡ b) (b < a) → true ≡ is_le o → a ≤ b
at_most a b Less h e = omega arith
at_most a b Equal h e = omega arith
at_most a b Greater h e = absurd (false≢true (sym e))

above : (a b : ℕ) (o : Ordering) → MatchOrdering o (a < b) (a ≡ b) (b < a) → false ≡ is_le o → b < a
above a b Less h e = absurd (false≢true e)
above a b Equal h e = absurd (false≢true e)
above a b Greater h e = h

-- what a comparison of moments says
pub at_most_by_cmp : (a b : ℕ) → true ≡ is_le (nat_cmp a b) → a ≤ b
at_most_by_cmp a b = at_most a b (nat_cmp a b) (ranks a b)

pub above_by_cmp : (a b : ℕ) → false ≡ is_le (nat_cmp a b) → b < a
above_by_cmp a b = above a b (nat_cmp a b) (ranks a b)

-- what is stated of a value that is there
pub some_and : {A : Type 0} (o : Option A) {P Q : A → Type 0} → IsSomeAnd o P → ((x : A) → P x → Q x) → IsSomeAnd o Q
some_and (Some x) p f = f x p
some_and None p f = p

-- one is there
pub some_of : {A : Type 0} (o : Option A) (P : A → Type 0) → IsSomeAnd o P → (x : A) × (o ≡ Some x)
some_of (Some x) P p = (x, refl)
some_of None P p = absurd p

pub some_also : {A : Type 0} (o : Option A) {P Q R : A → Type 0} → IsSomeAnd o P → IfSome o Q → ((x : A) → P x → Q x → R x) → IsSomeAnd o R
some_also (Some x) p q f = f x p q
some_also None p q f = p

pub if_none : {A : Type 0} (o : Option A) (P : Type 0) → P → IfNone o P
if_none None P given = given
if_none (Some x) P given = tt

-- The keys that a run handles rise, its rows are in the order of their places, and no event made takes another's place.
use Rattle.std.proofs.Common.{◌≡◌, ◌≢◌, ℕ, zero, suc, ◌+◌, ◌<◌, ◌≤◌, Bool, true, false, cond, List, [], ◌∷◌, ◌++◌, map, length, Option, Some, None, ap, ◌∙◌, sym, subst, refl, inl, inr, arith}
use Rattle.std.proofs.lemmas.Option.{same_Some}
use Rattle.std.specs.Option.{is_some, option_map}
use Rattle.std.specs.List.{AllByRecursion, range_with_len}
use Rattle.std.specs.Ordering.{nat_cmp, eq_by_cmp, ordering_reverse}
use Rattle.std.specs.Cmp.{nat_cmp_total, unsigned_tied}
use Rattle.std.specs.FinMap.{get, contains_key, remove, get-insert}
use Rattle.std.proofs.lemmas.List.{map-append}
use Rattle.std.proofs.lemmas.Bool.{eqb-true, eq-eqb}
use Rattle.std.specs.declared.cmp.Ordering.{Ordering}
use Rattle.std.specs.declared.cmp.Ordering.TheVariants.{Less, Equal, Greater}
use Rattle.base.specs.declared.key.Key.{Key}
use Rattle.base.specs.Order.{key_cmp, IsBefore, key_total, key_exact, before-from_moments}
use Rattle.base.specs.World.{Machine, World, IsPending, settled, rows_of, events_of, outcome, NextStep, Run}
use Rattle.base.specs.Run.{MakesLater, holds-settled, holds-with_events, contains-remove}
use Rattle.base.specs.Rising.{IsRising, IsPlaceBefore, CountsRows, UsesNumbers, IsNumbered, AreNew}

by_order : (a b : Key) (o : Ordering) → key_cmp a b ≡ o → ¬ (IsBefore b a) → ¬ (b ≡ a) → IsBefore a b
by_order a b Less e not_before other = e
by_order a b Equal e not_before other = absurd (other (sym (key_exact a b e)))
by_order a b Greater e not_before other = absurd (not_before (key_total.antisymm b a ∙ ap ordering_reverse e))

before_other : (a b : Key) → ¬ (IsBefore b a) → ¬ (b ≡ a) → IsBefore a b
before_other a b = by_order a b (key_cmp a b) refl

pub all_append : {A : Type 0} (P : A → Type 0) (xs ys : List A) → AllByRecursion P xs → AllByRecursion P ys → AllByRecursion P (xs ++ ys)
all_append P [] ys a b = b
all_append P (x ∷ xs) ys a b = (a.0, all_append P xs ys a.1 b)

pub all_weaker : {A : Type 0} (P Q : A → Type 0) → ((x : A) → P x → Q x) → (xs : List A) → AllByRecursion P xs → AllByRecursion Q xs
all_weaker P Q f [] a = tt
all_weaker P Q f (x ∷ xs) a = (f x a.0, all_weaker P Q f xs a.1)

-- what holds of all of two lists holds of each of them
pub all_front : {A : Type 0} (P : A → Type 0) (xs ys : List A) → AllByRecursion P (xs ++ ys) → AllByRecursion P xs
all_front P [] ys all = tt
all_front P (x ∷ xs) ys all = (all.0, all_front P xs ys all.1)

pub all_back : {A : Type 0} (P : A → Type 0) (xs ys : List A) → AllByRecursion P (xs ++ ys) → AllByRecursion P ys
all_back P [] ys all = all
all_back P (x ∷ xs) ys all = all_back P xs ys all.1

pub rising_front : {A : Type 0} (before : A → A → Type 0) (xs ys : List A) → IsRising before (xs ++ ys) → IsRising before xs
rising_front before [] ys up = tt
rising_front before (x ∷ xs) ys up = (all_front (before x) xs ys up.0, rising_front before xs ys up.1)

pub rising_append : {A : Type 0} (before : A → A → Type 0) (xs ys : List A) → IsRising before xs → IsRising before ys → AllByRecursion (λ x. AllByRecursion (before x) ys) xs → IsRising before (xs ++ ys)
rising_append before [] ys a b across = b
rising_append before (x ∷ xs) ys a b across = (all_append (before x) xs ys a.0 across.0, rising_append before xs ys a.1 b across.1)

-- ---- places

abbrev places : Key → List ℕ → List (Key × ℕ)
places k = map (λ i. (k, i))

all_places : (P : Key → Type 0) (k : Key) (is : List ℕ) → P k → AllByRecursion (λ p. P p.0) (places k is)
all_places P k [] h = tt
all_places P k (i ∷ is) h = (h, all_places P k is h)

after_place : (k : Key) (a b n : ℕ) → a < b → AllByRecursion (IsPlaceBefore (k, a)) (places k (range_with_len b n))
after_place k a b zero h = tt
after_place k a b (suc n) h = (inr (refl, h), after_place k a (b + 1) n (omega arith))

places_rise : (k : Key) (a n : ℕ) → IsRising IsPlaceBefore (places k (range_with_len a n))
places_rise k a zero = tt
places_rise k a (suc n) = (after_place k a (a + 1) n (omega arith), places_rise k (a + 1) n)

module _ {S C R : Type 0} (step : Machine S C R) (later : MakesLater step) (end : ℕ) where
  -- all that is handled after a key is after it, if all that pends is
  handled_after : (b : Key) (ks : List Key) (w v : World S C) (rows : List R) → ((q : Key) → IsPending w q → IsBefore b q) → Run step end w ks rows v → AllByRecursion (IsBefore b) ks
  handled_after b [] w v rows after run = tt
  handled_after b (k ∷ ks) w v rows after run =
      let next = run.4 in
      let first : IsBefore b k = after k (ap is_some next.here) in
      let mid_after : (q : Key) → IsPending run.0 q → IsBefore b q =
      subst (λ m. (q : Key) → IsPending m q → IsBefore b q) (sym next.world)
      (holds-settled step later end (IsBefore b) w k next.content (λ q here _. after q here) (λ q h. key_total.trans b k q first (before-from_moments k q h))) in
      (first, handled_after b ks run.0 v run.2 mid_after run.5)

  -- the keys of the events handled rise strictly
  pub keys_rise : (ks : List Key) (w v : World S C) (rows : List R) → Run step end w ks rows v → IsRising IsBefore ks
  keys_rise [] w v rows run = tt
  keys_rise (k ∷ ks) w v rows run =
      let next = run.4 in
      let mid_after : (q : Key) → IsPending run.0 q → IsBefore k q =
      subst (λ m. (q : Key) → IsPending m q → IsBefore k q) (sym next.world)
      (holds-settled step later end (IsBefore k) w k next.content (λ q here other. before_other k q (next.least q here) other) (λ q h. before-from_moments k q h)) in
      (handled_after k ks run.0 v run.2 mid_after run.5, keys_rise ks run.0 v run.2 run.5)

  module _ (place : R → Key × ℕ) (counts : CountsRows place step) where
    places_made : (k : Key) (c : C) (o : Option S) → (n : ℕ) × (map place (rows_of (option_map (step k c) o)) ≡ places k (range_with_len 0 n))
    places_made k c None = (0, refl)
    places_made k c (Some s) = (length (step k c s).rows, counts k c s)

    places_of : (w v : World S C) (k : Key) (made : List R) → NextStep step w k v made → (n : ℕ) × (map place made ≡ places k (range_with_len 0 n))
    places_of w v k made next =
        let found = places_made k next.content (get w.members k.to) in
        (found.0, ap (map place) next.made ∙ found.1)

    -- what holds of the keys handled holds of the keys of the rows
    rows_all : (P : Key → Type 0) (ks : List Key) (w v : World S C) (rows : List R) → AllByRecursion P ks → Run step end w ks rows v → AllByRecursion (λ p. P p.0) (map place rows)
    rows_all P [] w v rows all run = subst (λ l. AllByRecursion (λ p. P p.0) (map place l)) (sym run.1) tt
    rows_all P (k ∷ ks) w v rows all run =
        let made = places_of w run.0 k run.1 run.4 in
        let parts : map place rows ≡ places k (range_with_len 0 made.0) ++ map place run.2 =
        ap (map place) run.6 ∙ map-append place run.1 run.2 ∙ ap (λ l. l ++ map place run.2) made.1 in
        subst (λ l. AllByRecursion (λ p. P p.0) l) (sym parts)
        (all_append (λ p. P p.0) (places k (range_with_len 0 made.0)) (map place run.2) (all_places P k (range_with_len 0 made.0) all.0) (rows_all P ks run.0 v run.2 all.1 run.5))

    -- the rows of a run are in the order of their places, and no two have one place
    pub rows_rise : (ks : List Key) (w v : World S C) (rows : List R) → Run step end w ks rows v → IsRising IsPlaceBefore (map place rows)
    rows_rise [] w v rows run = subst (λ l. IsRising IsPlaceBefore (map place l)) (sym run.1) tt
    rows_rise (k ∷ ks) w v rows run =
        let made = places_of w run.0 k run.1 run.4 in
        let own : List (Key × ℕ) = places k (range_with_len 0 made.0) in
        let parts : map place rows ≡ own ++ map place run.2 =
        ap (map place) run.6 ∙ map-append place run.1 run.2 ∙ ap (λ l. l ++ map place run.2) made.1 in
        let after : AllByRecursion (λ p. IsBefore k p.0) (map place run.2) = rows_all (IsBefore k) ks run.0 v run.2 (keys_rise (k ∷ ks) w v rows run).0 run.5 in
        let across : AllByRecursion (λ p. AllByRecursion (IsPlaceBefore p) (map place run.2)) own =
        all_weaker (λ (p : Key × ℕ). p.0 ≡ k) (λ p. AllByRecursion (IsPlaceBefore p) (map place run.2))
        (λ p same. all_weaker (λ (q : Key × ℕ). IsBefore k q.0) (IsPlaceBefore p) (λ q h. inl (subst (λ l. IsBefore l q.0) (sym same) h)) (map place run.2) after)
        own (all_places (λ l. l ≡ k) k (range_with_len 0 made.0) refl) in
        subst (IsRising IsPlaceBefore) (sym parts) (rising_append IsPlaceBefore own (map place run.2) (places_rise k 0 made.0) (rows_rise ks run.0 v run.2 run.5) across)

-- ---- new events

tied_numbers : (a b : ℕ) → eq_by_cmp nat_cmp a b ≡ true → a ≡ b
tied_numbers a b e = eqb-true a b (sym (unsigned_tied a b) ∙ e)

module _ {S C R : Type 0} (next : S → ℕ) (step : Machine S C R) (numbers : UsesNumbers next step) where
  -- what a pending key's sender says of its number
  abbrev Numbered : World S C → Key → Type 0
  Numbered w q = (s : S) × (get w.members q.from ≡ Some s) × (q.number < next s)

  module _ (w : World S C) (k : Key) (c : C) (s : S) (receiver : get w.members k.to ≡ Some s) where
    abbrev after : World S C
    after = settled w k (Some (step k c s))

    kept : (q : Key) (b : Bool) → eq_by_cmp nat_cmp q.from k.to ≡ b → Numbered w q → (t : S) × (cond b (Some (step k c s).state) (get w.members q.from) ≡ Some t) × (q.number < next t)
    kept q true e is =
        let same : is.0 ≡ s = same_Some is.0 s (sym is.1 ∙ ap (get w.members) (tied_numbers q.from k.to e) ∙ receiver) in
        let h : q.number < next s = subst (λ t. q.number < next t) same is.2 in
        let grows = numbers.grows k c s in
        ((step k c s).state, refl, omega arith)
    kept q false e is = is

    found : (q : Key) → ((t : S) × (cond (eq_by_cmp nat_cmp q.from k.to) (Some (step k c s).state) (get w.members q.from) ≡ Some t) × (q.number < next t)) → Numbered after q
    found q is = (is.0, get-insert nat_cmp_total w.members k.to (step k c s).state q.from ∙ is.1, is.2)

    of_made : (q : Key) → q.from ≡ k.to → q.number < next (step k c s).state → Numbered after q
    of_made q from h = (
      (step k c s).state,
      get-insert nat_cmp_total w.members k.to (step k c s).state q.from
          ∙ ap (λ b. cond b (Some (step k c s).state) (get w.members q.from)) (ap (eq_by_cmp nat_cmp q.from) (sym from) ∙ unsigned_tied q.from q.from ∙ eq-eqb q.from q.from refl),
      h,
    )

    numbered_after : IsNumbered next w → IsNumbered next after
    numbered_after all =
        holds-with_events (Numbered after) (step k c s).events (remove w.pending k)
        (λ q here. found q (kept q (eq_by_cmp nat_cmp q.from k.to) refl (all q (contains-remove w.pending k q here).0)))
        (all_weaker _ (λ e. Numbered after e.0) (λ e made. of_made e.0 made.0 made.2) (step k c s).events (numbers.made k c s))

    unused : (q : Key) → IsNumbered next w → q.from ≡ k.to → next s ≤ q.number → (b : Bool) → contains_key (remove w.pending k) q ≡ b → b ≡ false
    unused q all from h true here =
        let is = all q (contains-remove w.pending k q here).0 in
        let same : is.0 ≡ s = same_Some is.0 s (sym is.1 ∙ ap (get w.members) from ∙ receiver) in
        let low : q.number < next s = subst (λ t. q.number < next t) same is.2 in
        absurd (omega arith)
    unused q all from h false here = refl

    differ : (e f : Key × C) → e.0.number < f.0.number → e.0 ≢ f.0
    differ e f h same = let n : e.0.number ≡ f.0.number = ap (λ (q : Key). q.number) same in omega arith

    rising_weaker : (P Q : Key × C → Key × C → Type 0) → ((e f : Key × C) → P e f → Q e f) → (es : List (Key × C)) → IsRising P es → IsRising Q es
    rising_weaker P Q f [] is = tt
    rising_weaker P Q f (e ∷ es) is = (all_weaker (P e) (Q e) (f e) es is.0, rising_weaker P Q f es is.1)

    new_events : IsNumbered next w → AreNew (remove w.pending k) (step k c s).events
    new_events all = record {
      unlike_pending = all_weaker _ (λ e. contains_key (remove w.pending k) e.0 ≡ false) (λ e made. unused e.0 all made.0 made.1 (contains_key (remove w.pending k) e.0) refl) (step k c s).events (numbers.made k c s);
      unlike_each_other = rising_weaker (λ e f. e.0.number < f.0.number) (λ e f. e.0 ≢ f.0) differ (step k c s).events (numbers.apart k c s);
    }

  -- whichever event is handled
  pub numbered_settled : (w : World S C) (k : Key) (c : C) (o : Option S) → get w.members k.to ≡ o → IsNumbered next w → IsNumbered next (settled w k (option_map (step k c) o))
  numbered_settled w k c None receiver all q here = all q (contains-remove w.pending k q here).0
  numbered_settled w k c (Some s) receiver all q here = numbered_after w k c s receiver all q here

  -- a step leaves each pending event with a number that its sender has used
  pub numbered_step : (w v : World S C) (k : Key) (made : List R) → IsNumbered next w → NextStep step w k v made → IsNumbered next v
  numbered_step w v k made all is = subst (IsNumbered next) (sym is.world) (numbered_settled w k is.content (get w.members k.to) refl all)

  -- and so does a run
  pub numbered_run : (end : ℕ) (ks : List Key) (w v : World S C) (rows : List R) → IsNumbered next w → Run step end w ks rows v → IsNumbered next v
  numbered_run end [] w v rows all run = subst (IsNumbered next) (sym run.0) all
  numbered_run end (k ∷ ks) w v rows all run = numbered_run end ks run.0 v run.2 (numbered_step w run.0 k run.1 all run.4) run.5

  new_of : (w : World S C) (k : Key) (c : C) (o : Option S) → get w.members k.to ≡ o → IsNumbered next w → AreNew (remove w.pending k) (events_of (option_map (step k c) o))
  new_of w k c None receiver all = record { unlike_pending = tt; unlike_each_other = tt }
  new_of w k c (Some s) receiver all = new_events w k c s receiver all

  -- the events that a step makes are new
  pub new_step : (w : World S C) (k : Key) (c : C) → IsNumbered next w → AreNew (remove w.pending k) (events_of (outcome step w k c))
  new_step w k c = new_of w k c (get w.members k.to) refl

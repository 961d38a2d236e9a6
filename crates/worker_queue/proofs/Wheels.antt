-- Events in the slots of their moments as a set.
use Rattle.std.proofs.Common.{◌≡◌, ◌≢◌, ◌↔◌, ℕ, zero, suc, ◌+◌, ◌%◌, ◌<◌, ◌≤◌, ◌⊎◌, Bool, true, false, cond, List, [], ◌∷◌, ◌++◌, map, length, set, get_or, Option, Some, None, ap, ◌∙◌, sym, subst, refl, inl, inr, arith}
use Rattle.std.specs.Option.{is_some}
use Rattle.std.specs.List.{flat_map}
use Rattle.std.specs.Ordering.{eq_by_cmp}
use Rattle.std.specs.FinMap.{empty, get, contains_key, insert, remove, get-insert, get-remove, get-empty, same_map}
use Rattle.std.proofs.lemmas.Bool.{false≢true, cases_eq}
use Rattle.std.proofs.lemmas.List.{map-set, length-map, length-set, get_or-map, get_or-set_same, get_or-set_other}
use Rattle.base.specs.declared.key.Key.{Key}
use Rattle.base.specs.Order.{key_cmp, key_total, key_exact, IsBefore, before-from_moments, moments-from_before, moments-from_not_before}
use Rattle.base.specs.Run.{IsFirst, tells, holds-with_events, contains-remove}
use Rattle.worker_queue.specs.Queue.{IsLeastKey}
use Rattle.worker_queue.specs.Marks.{mark_at}
use Rattle.worker_queue.specs.Slots.{by_key, IsOfOneMoment, NoneIsBefore}
use Rattle.worker_queue.specs.Wheel.{slot_at, all_by_key, Spans, ArePlaced, AreMarked, turns, IsFirstPlace}
use Rattle.worker_queue.proofs.Lists.{found, get-by_key, some_key}

abbrev pub or_else : {A : Type 0} → Option A → Option A → Option A
or_else None o = o
or_else (Some x) o = Some x

or_else-none : {A : Type 0} (o : Option A) → or_else o None ≡ o
or_else-none None = refl
or_else-none (Some x) = refl

no_option : {A : Type 0} (o : Option A) → is_some o ≡ false → o ≡ None
no_option None none = refl
no_option (Some x) none = absurd (false≢true (sym none))

-- ---- where a key stands

module _ {E : Type 0} (key : E → Key) where
  found-append : (xs ys : List E) (q : Key) → found key (xs ++ ys) q ≡ or_else (found key xs q) (found key ys q)
  found-append [] ys q = refl
  found-append (x ∷ xs) ys q = ap (cond (eq_by_cmp key_cmp q (key x)) (Some x)) (found-append xs ys q) ∙ chosen (eq_by_cmp key_cmp q (key x)) x (found key xs q)
    where
      chosen : (b : Bool) (x : E) (o : Option E) → cond b (Some x) (or_else o (found key ys q)) ≡ or_else (cond b (Some x) o) (found key ys q)
      chosen true x o = refl
      chosen false x o = refl

  found_in_none : (lists : List (List E)) (q : Key) → ((place : ℕ) → place < length lists → found key (slot_at lists place) q ≡ None) → found key (flat_map (λ events. events) lists) q ≡ None
  found_in_none [] q none = refl
  found_in_none (l ∷ lists) q none =
      found-append l (flat_map (λ events. events) lists) q ∙ ap (λ o. or_else o (found key (flat_map (λ events. events) lists) q)) (none 0 (omega arith))
      ∙ found_in_none lists q (λ place within. none (suc place) (omega arith))

  -- where only one of the lists can have a key
  found_in_one : (lists : List (List E)) (q : Key) (place : ℕ) → place < length lists → ((other : ℕ) → other < length lists → ¬ (other ≡ place) → found key (slot_at lists other) q ≡ None)
      → found key (flat_map (λ events. events) lists) q ≡ found key (slot_at lists place) q
  found_in_one [] q place within none = absurd (omega arith)
  found_in_one (l ∷ lists) q zero within none =
      found-append l (flat_map (λ events. events) lists) q
      ∙ ap (or_else (found key l q)) (found_in_none lists q (λ other below. none (suc other) (omega arith) (λ same. omega arith)))
      ∙ or_else-none (found key l q)
  found_in_one (l ∷ lists) q (suc place) within none =
      found-append l (flat_map (λ events. events) lists) q ∙ ap (λ o. or_else o (found key (flat_map (λ events. events) lists) q)) (none 0 (omega arith) (λ same. omega arith))
      ∙ found_in_one lists q place (omega arith) (λ other below differs. none (suc other) (omega arith) (λ same. differs (let h : other ≡ place = omega arith in h)))

  module _ (base : ℕ) (lists : List (List E)) (sized : length lists ≡ 1024) (placed : ArePlaced key base lists) where
    own_place : (q : Key) → q.at % 1024 < 1024
    own_place q = omega arith

    not_elsewhere : (q : Key) (other : ℕ) → other < length lists → ¬ (other ≡ q.at % 1024) → found key (slot_at lists other) q ≡ None
    not_elsewhere q other below differs = by_test (found key (slot_at lists other) q) refl
      where
        by_test : (o : Option E) → found key (slot_at lists other) q ≡ o → found key (slot_at lists other) q ≡ None
        by_test None is = is
        by_test (Some e) is = absurd (differs (sym (placed other (omega arith) q (ap is_some (get-by_key key (slot_at lists other) q ∙ is))).1))

    -- an event is looked for in the slot of its moment
    pub get_at : (q : Key) → get (all_by_key key lists) q ≡ get (by_key key (slot_at lists (q.at % 1024))) q
    get_at q =
        get-by_key key (flat_map (λ events. events) lists) q ∙ found_in_one lists q (q.at % 1024) (omega arith) (not_elsewhere q)
        ∙ sym (get-by_key key (slot_at lists (q.at % 1024)) q)

    pub there_at : (q : Key) → contains_key (all_by_key key lists) q ≡ true → contains_key (by_key key (slot_at lists (q.at % 1024))) q ≡ true
    there_at q here = sym (ap is_some (get_at q)) ∙ here

    pub spanned : (q : Key) → contains_key (all_by_key key lists) q ≡ true → Spans base q.at
    spanned q here = (placed (q.at % 1024) (omega arith) q (there_at q here)).0

    -- what is in a slot is in the wheel
    pub get_in : (place : ℕ) (q : Key) → place < 1024 → contains_key (by_key key (slot_at lists place)) q ≡ true → get (all_by_key key lists) q ≡ get (by_key key (slot_at lists place)) q
    get_in place q below here = get_at q ∙ ap (λ n. get (by_key key (slot_at lists n)) q) (placed place below q here).1

    pub one_moment : (place : ℕ) → place < 1024 → IsOfOneMoment (by_key key (slot_at lists place))
    one_moment place below q r here there =
        let a = placed place below q here in
        let b = placed place below r there in
        let from = a.0.from in
        let before = a.0.before in
        let from_too = b.0.from in
        let before_too = b.0.before in
        let at : q.at % 1024 ≡ place = a.1 in
        let at_too : r.at % 1024 ≡ place = b.1 in
        omega arith

    pub nothing : ((place : ℕ) → place < 1024 → slot_at lists place ≡ []) → all_by_key key lists ≡ empty
    nothing none = same_map key_total key_exact _ _ (λ q. get_at q ∙ ap (λ l. get (by_key key l) q) (none (q.at % 1024) (omega arith)))

    -- ---- the slot with the earliest moment

    at_turn : (place : ℕ) → place < 1024 → (q : Key) → contains_key (by_key key (slot_at lists place)) q ≡ true → q.at ≡ base + turns base place
    at_turn place below q here =
        let own = placed place below q here in
        let from = own.0.from in
        let before = own.0.before in
        let at : q.at % 1024 ≡ place = own.1 in
        omega arith

    some_there : (place : ℕ) (q : Key) → contains_key (by_key key (slot_at lists place)) q ≡ true → ¬ (slot_at lists place ≡ [])
    some_there place q here none = false≢true (sym (ap (λ l. contains_key (by_key key l) q) none ∙ ap is_some (get-empty key_cmp q)) ∙ here)

    module _ (place : ℕ) (is : IsFirstPlace base lists place) where
      earlier : (k q : Key) → contains_key (by_key key (slot_at lists place)) k ≡ true → contains_key (all_by_key key lists) q ≡ true → ¬ (q.at % 1024 ≡ place) → k.at < q.at
      earlier k q here there differs =
          let other = q.at % 1024 in
          let at_other = there_at q there in
          let low : turns base place ≤ turns base other = is.first other (omega arith) (some_there other q at_other) in
          let a : k.at ≡ base + turns base place = at_turn place is.below k here in
          let b : q.at ≡ base + turns base other = at_turn other (omega arith) q at_other in
          let own : k.at % 1024 ≡ place = (placed place is.below k here).1 in
          let not_same : ¬ (k.at ≡ q.at) = λ same. differs (ap (λ n. n % 1024) (sym same) ∙ own) in
          omega arith

      not_before_slot : (k : Key) → contains_key (by_key key (slot_at lists place)) k ≡ true → ((q : Key) → contains_key (by_key key (slot_at lists place)) q ≡ true → ¬ (IsBefore q k))
          → (q : Key) → contains_key (all_by_key key lists) q ≡ true → ¬ (IsBefore q k)
      not_before_slot k here least q there before = by_place (cases_eq (q.at % 1024) place)
        where
          by_place : (q.at % 1024 ≡ place) ⊎ (q.at % 1024 ≡ place → ⊥) → ⊥
          by_place (inl same) = least q (subst (λ n. contains_key (by_key key (slot_at lists n)) q ≡ true) same (there_at q there)) before
          by_place (inr differs) = let less = earlier k q here there differs in let late = moments-from_before q k before in absurd (omega arith)

      pub first_of_all : (k : Key) (e : E) → IsFirst (by_key key (slot_at lists place)) k e → IsFirst (all_by_key key lists) k e
      first_of_all k e first = record {
        here = get_in place k is.below (ap is_some first.here) ∙ first.here;
        least = not_before_slot k (ap is_some first.here) first.least;
      }

      pub least_of_all : (k : Key) → IsLeastKey (by_key key (slot_at lists place)) k → IsLeastKey (all_by_key key lists) k
      least_of_all k least = record {
        here = ap is_some (get_in place k is.below least.here) ∙ least.here;
        least = not_before_slot k least.here least.least;
      }

      pub none_of_all : (limit : Key) → NoneIsBefore (by_key key (slot_at lists place)) limit → NoneIsBefore (all_by_key key lists) limit
      none_of_all limit none q there before = by_place (cases_eq (q.at % 1024) place)
        where
          by_place : (q.at % 1024 ≡ place) ⊎ (q.at % 1024 ≡ place → ⊥) → ⊥
          by_place (inl same) = none q (subst (λ n. contains_key (by_key key (slot_at lists n)) q ≡ true) same (there_at q there)) before
          by_place (inr differs) =
              let one = some_key key (slot_at lists place) is.some in
              none one.0 one.1 (key_total.trans one.0 q limit (before-from_moments one.0 q (earlier one.0 q one.1 there differs)) before)

  -- ---- a slot that has changed

  module _ (base base' : ℕ) (lists lists' : List (List E)) (sized : length lists ≡ 1024) (sized' : length lists' ≡ 1024) where
    module _ (placed : ArePlaced key base lists) where
      -- a slot with the same events
      pub placed_same : ((place : ℕ) → by_key key (slot_at lists' place) ≡ by_key key (slot_at lists place)) → ArePlaced key base lists'
      placed_same same place below q here = placed place below q (subst (λ m. contains_key m q ≡ true) (same place) here)

      pub all_same : ArePlaced key base' lists' → ((place : ℕ) → by_key key (slot_at lists' place) ≡ by_key key (slot_at lists place)) → all_by_key key lists' ≡ all_by_key key lists
      all_same placed' same =
          same_map key_total key_exact _ _ (λ q.
          get_at base' lists' sized' placed' q ∙ ap (λ m. get m q) (same (q.at % 1024)) ∙ sym (get_at base lists sized placed q))

      module _ (place : ℕ) (below : place < 1024) (k : Key) (at : k.at % 1024 ≡ place) (others : (other : ℕ) → ¬ (other ≡ place) → slot_at lists' other ≡ slot_at lists other) where
        other_key : (q : Key) (o p : Option E) (b : Bool) → eq_by_cmp key_cmp q k ≡ b → ¬ (q.at % 1024 ≡ place) → p ≡ cond b o p
        other_key q o p true same differs = absurd (differs (ap (λ (r : Key). r.at % 1024) (tells q k same) ∙ at))
        other_key q o p false same differs = refl

        changed_at : ArePlaced key base' lists' → (o : Option E) → ((q : Key) → get (by_key key (slot_at lists' place)) q ≡ cond (eq_by_cmp key_cmp q k) o (get (by_key key (slot_at lists place)) q))
            → (q : Key) → get (all_by_key key lists') q ≡ cond (eq_by_cmp key_cmp q k) o (get (all_by_key key lists) q)
        changed_at placed' o changed q = by_place (cases_eq (q.at % 1024) place)
          where
            by_place : (q.at % 1024 ≡ place) ⊎ (q.at % 1024 ≡ place → ⊥) → get (all_by_key key lists') q ≡ cond (eq_by_cmp key_cmp q k) o (get (all_by_key key lists) q)
            by_place (inl same) =
                get_at base' lists' sized' placed' q ∙ ap (λ n. get (by_key key (slot_at lists' n)) q) same ∙ changed q
                ∙ ap (λ n. cond (eq_by_cmp key_cmp q k) o (get (by_key key (slot_at lists n)) q)) (sym same) ∙ ap (cond (eq_by_cmp key_cmp q k) o) (sym (get_at base lists sized placed q))
            by_place (inr differs) =
                get_at base' lists' sized' placed' q ∙ ap (λ l. get (by_key key l) q) (others (q.at % 1024) differs) ∙ sym (get_at base lists sized placed q)
                ∙ other_key q o (get (all_by_key key lists) q) (eq_by_cmp key_cmp q k) refl differs

        -- an event more
        pub all_pushed : ArePlaced key base' lists' → (e : E) → by_key key (slot_at lists' place) ≡ insert (by_key key (slot_at lists place)) k e → all_by_key key lists' ≡ insert (all_by_key key lists) k e
        all_pushed placed' e pushed =
            same_map key_total key_exact _ _ (λ q.
            changed_at placed' (Some e) (λ r. ap (λ m. get m r) pushed ∙ get-insert key_total (by_key key (slot_at lists place)) k e r) q ∙ sym (get-insert key_total (all_by_key key lists) k e q))

        pub placed_pushed : Spans base k.at → (e : E) → by_key key (slot_at lists' place) ≡ insert (by_key key (slot_at lists place)) k e → ArePlaced key base lists'
        placed_pushed spans e pushed other within q here = by_place (cases_eq other place)
          where
            by_place : (other ≡ place) ⊎ (other ≡ place → ⊥) → Spans base q.at × (q.at % 1024 ≡ other)
            by_place (inl same) =
                subst (λ n. Spans base q.at × (q.at % 1024 ≡ n)) (sym same)
                (holds-with_events (λ (r : Key). Spans base r.at × (r.at % 1024 ≡ place)) ((k, e) ∷ []) (by_key key (slot_at lists place)) (placed place below) ((spans, at), tt) q
                (subst (λ m. contains_key m q ≡ true) pushed (subst (λ n. contains_key (by_key key (slot_at lists' n)) q ≡ true) same here)))
            by_place (inr differs) = placed other within q (subst (λ l. contains_key (by_key key l) q ≡ true) (others other differs) here)

        -- an event less
        pub all_popped : ArePlaced key base' lists' → by_key key (slot_at lists' place) ≡ remove (by_key key (slot_at lists place)) k → all_by_key key lists' ≡ remove (all_by_key key lists) k
        all_popped placed' popped =
            same_map key_total key_exact _ _ (λ q.
            changed_at placed' None (λ r. ap (λ m. get m r) popped ∙ get-remove key_total (by_key key (slot_at lists place)) k r) q ∙ sym (get-remove key_total (all_by_key key lists) k q))

        still_in : by_key key (slot_at lists' place) ≡ remove (by_key key (slot_at lists place)) k → (other : ℕ) (q : Key) → contains_key (by_key key (slot_at lists' other)) q ≡ true → contains_key (by_key key (slot_at lists other)) q ≡ true
        still_in popped other q here = by_place (cases_eq other place)
          where
            by_place : (other ≡ place) ⊎ (other ≡ place → ⊥) → contains_key (by_key key (slot_at lists other)) q ≡ true
            by_place (inl same) =
                subst (λ n. contains_key (by_key key (slot_at lists n)) q ≡ true) (sym same)
                (contains-remove (by_key key (slot_at lists place)) k q (subst (λ m. contains_key m q ≡ true) popped (subst (λ n. contains_key (by_key key (slot_at lists' n)) q ≡ true) same here))).0
            by_place (inr differs) = subst (λ l. contains_key (by_key key l) q ≡ true) (others other differs) here

        pub placed_popped : base' ≡ k.at → (e : E) → IsFirst (all_by_key key lists) k e → by_key key (slot_at lists' place) ≡ remove (by_key key (slot_at lists place)) k → ArePlaced key base' lists'
        placed_popped rises e first popped other within q here =
            let there = still_in popped other q here in
            let own = placed other within q there in
            let late = moments-from_not_before q k (first.least q (ap is_some (get_in base lists sized placed other q within there) ∙ there)) in
            let before = own.0.before in
            let from = (spanned base lists sized placed k (ap is_some first.here)).from in
            (record { from = omega arith; before = omega arith }, own.1)

    -- ---- marks

    module _ (words words' : List ℕ) (marked : AreMarked words lists) (place : ℕ) (others : (other : ℕ) → ¬ (other ≡ place) → slot_at lists' other ≡ slot_at lists other) where
      pub marked_but : ((other : ℕ) → other < 1024 → other ≢ place → mark_at words' other ≡ mark_at words other) → ((mark_at words' place ≡ 0) ↔ (slot_at lists' place ≡ [])) → AreMarked words' lists'
      marked_but marks here other below = by_place (cases_eq other place)
        where
          by_place : (other ≡ place) ⊎ (other ≡ place → ⊥) → (mark_at words' other ≡ 0) ↔ (slot_at lists' other ≡ [])
          by_place (inl same) = subst (λ n. (mark_at words' n ≡ 0) ↔ (slot_at lists' n ≡ [])) (sym same) here
          by_place (inr differs) = (
            λ unmarked. others other differs ∙ (marked other below).0 (sym (marks other below differs) ∙ unmarked),
            λ none. marks other below differs ∙ (marked other below).1 (sym (others other differs) ∙ none),
          )

      pub marked_set : ((other : ℕ) → other < 1024 → other ≢ place → mark_at words' other ≡ mark_at words other) → mark_at words' place ≡ 1 → ¬ (slot_at lists' place ≡ []) → AreMarked words' lists'
      marked_set marks one some = marked_but marks (λ none. absurd (let h : 0 ≡ 1 = sym none ∙ one in omega arith), λ none. absurd (some none))

      pub marked_clear : ((other : ℕ) → other < 1024 → other ≢ place → mark_at words' other ≡ mark_at words other) → mark_at words' place ≡ 0 → slot_at lists' place ≡ [] → AreMarked words' lists'
      marked_clear marks zero_now none = marked_but marks (λ unmarked. none, λ empty. zero_now)

-- ---- the slots in memory

module _ {S E : Type 0} (f : S → List E) (slots : List S) where
  pub as_many : length slots ≡ 1024 → length (map f slots) ≡ 1024
  as_many sized = length-map slots f ∙ sized

  module _ (place : ℕ) (within : place < length slots) (s : S) where
    pub item_at : s ≡ get_or slots place s → f s ≡ slot_at (map f slots) place
    item_at is = ap f is ∙ sym (get_or-map f slots place s [] within)

    pub at_place : slot_at (map f (set slots place s)) place ≡ f s
    at_place = ap (λ l. slot_at l place) (map-set f slots place s) ∙ get_or-set_same (map f slots) place (f s) [] (let h = length-map slots f in omega arith)

    pub elsewhere : (other : ℕ) → ¬ (other ≡ place) → slot_at (map f (set slots place s)) other ≡ slot_at (map f slots) other
    elsewhere other differs = ap (λ l. slot_at l other) (map-set f slots place s) ∙ get_or-set_other (map f slots) place other (f s) [] differs

    pub still_as_many : length slots ≡ 1024 → length (map f (set slots place s)) ≡ 1024
    still_as_many sized = length-map (set slots place s) f ∙ length-set slots place s ∙ sized

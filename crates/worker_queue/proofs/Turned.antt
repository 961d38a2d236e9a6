-- A wheel of which one slot has changed in memory.
use Rattle.std.proofs.Common.{◌≡◌, ◌≢◌, OnErr, ℕ, zero, suc, ◌+◌, ◌%◌, ◌<◌, ◌≤◌, ◌⊎◌, true, false, cond, List, [], ◌∷◌, ◌++◌, map, length, set, get_or, Option, Some, None, IfSome, IfNone, IsSomeAnd, Contains, nat_le, Ok, Err, Result, ap, ◌∙◌, sym, subst, refl, inl, inr, arith}
use Rattle.std.specs.Option.{is_some}
use Rattle.std.specs.List.{slice_get}
use Rattle.std.specs.Ordering.{is_eq}
use Rattle.std.specs.Cmp.{tied_itself}
use Rattle.std.specs.FinMap.{empty, get, contains_key, insert, remove, get-empty, get-insert}
use Rattle.std.proofs.lemmas.Bool.{false≢true, cases_eq, cases_Bool, leb-true, le-leb}
use Rattle.std.proofs.lemmas.List.{length-set, nil_from_length}
use Rattle.std.proofs.lemmas.Option.{slice_get_within, get_or_from_slice_get}
use Rattle.base.specs.declared.key.Key.{Key}
use Rattle.base.specs.Order.{key_cmp, key_total}
use Rattle.base.specs.Run.{IsFirst}
use Rattle.worker_queue.specs.Marks.{mark_at}
use Rattle.worker_queue.specs.Queue.{IsLeastKey}
use Rattle.worker_queue.specs.Slots.{by_key, AreUnlike, IsOfOneMoment, NoneIsBefore}
use Rattle.worker_queue.specs.Wheel.{slot_at, all_by_key, Spans, ArePlaced, AreMarked, IsFirstPlace}
use Rattle.worker_queue.proofs.Lists.{get-by_key, is_found, list_empty, set_empty}
use Rattle.worker_queue.proofs.Events.{some_of, some_and}
use Rattle.worker_queue.proofs.Wheels as wheels

-- slots without events, and one more
pub still_empty : {S E : Type 0} (f : S → List E) (slots : List S) (s : S) → ((place : ℕ) → slot_at (map f slots) place ≡ []) → f s ≡ [] → (place : ℕ) → slot_at (map f (slots ++ s ∷ [])) place ≡ []
still_empty f [] s none new zero = new
still_empty f [] s none new (suc place) = refl
still_empty f (x ∷ slots) s none new zero = none 0
still_empty f (x ∷ slots) s none new (suc place) = still_empty f slots s (λ n. none (suc n)) new place

module _ {E : Type 0} (key : E → Key) (lists : List (List E)) (none : (place : ℕ) → slot_at lists place ≡ []) where
  pub placed_nothing : (base : ℕ) → ArePlaced key base lists
  placed_nothing base place below q here = absurd (false≢true (sym (ap (λ l. contains_key (by_key key l) q) (none place) ∙ ap is_some (get-empty key_cmp q)) ∙ here))

  pub marked_nothing : (words : List ℕ) → ((place : ℕ) → place < 1024 → mark_at words place ≡ 0) → AreMarked words lists
  marked_nothing words unmarked place below = (λ h. none place, λ h. unmarked place below)

-- what is stated of a refusal
pub on_err : {A F : Type 0} (result : Result A F) (P : Type 0) → P → OnErr result P
on_err (Ok x) P given = tt
on_err (Err e) P given = given

module _ {S E : Type 0} (key : E → Key) (f : S → List E) (slots : List S) (sized : length slots ≡ 1024) (base : ℕ) (placed : ArePlaced key base (map f slots)) where
  abbrev lists : List (List E)
  lists = map f slots

  pub sized_after : (place : ℕ) (s : S) → length (set slots place s) ≡ 1024
  sized_after place s = length-set slots place s ∙ sized

  pub nothing : ((place : ℕ) → place < 1024 → slot_at (map f slots) place ≡ []) → all_by_key key (map f slots) ≡ empty
  nothing = wheels.nothing key base lists (wheels.as_many f slots sized) placed

  pub none_before_nothing : ((place : ℕ) → place < 1024 → slot_at (map f slots) place ≡ []) → (limit : Key) → NoneIsBefore (all_by_key key (map f slots)) limit
  none_before_nothing none limit q here before =
      false≢true (sym (ap (λ m. is_some (get m q)) (nothing none) ∙ ap is_some (get-empty key_cmp q)) ∙ here)

  pub placed_risen : (base' : ℕ) → base ≤ base' → ((q : Key) → contains_key (all_by_key key (map f slots)) q ≡ true → base' ≤ q.at) → ArePlaced key base' (map f slots)
  placed_risen base' rises early place below q here =
      let own = placed place below q here in
      let late = early q (ap is_some (wheels.get_in key base lists (wheels.as_many f slots sized) placed place q below here) ∙ here) in
      let before = own.0.before in
      (record { from = late; before = omega arith }, own.1)

  pub spanned : (q : Key) → contains_key (all_by_key key (map f slots)) q ≡ true → Spans base q.at
  spanned = wheels.spanned key base lists (wheels.as_many f slots sized) placed

  module _ (place : ℕ) (below : place < 1024) (old : S) (is : old ≡ get_or slots place old) where
    within : place < length slots
    within = omega arith

    item : f old ≡ slot_at lists place
    item = wheels.item_at f slots place within old is

    pub one_moment : IsOfOneMoment (by_key key (f old))
    one_moment = subst (λ l. IsOfOneMoment (by_key key l)) (sym item) (wheels.one_moment key base lists (wheels.as_many f slots sized) placed place below)

    pub new_in_slot : (k : Key) → k.at % 1024 ≡ place → contains_key (all_by_key key (map f slots)) k ≡ false → contains_key (by_key key (f old)) k ≡ false
    new_in_slot k at new =
        ap (λ l. contains_key (by_key key l) k) (item ∙ ap (slot_at lists) (sym at)) ∙ ap is_some (sym (wheels.get_at key base lists (wheels.as_many f slots sized) placed k)) ∙ new

    module _ (index : ℕ) (e : E) (at : slice_get (f old) index ≡ Some e) where
      in_list : Contains (f old) e
      in_list = (index, slice_get_within (f old) index e at, get_or_from_slice_get (f old) index e e at)

      found_at : AreUnlike key (f old) → get (by_key key (f old)) (key e) ≡ Some e
      found_at unlike = get-by_key key (f old) (key e) ∙ is_found key (f old) e unlike in_list

      some : ¬ (slot_at lists place ≡ [])
      some none = let within = in_list.1 in let empty = ap length (item ∙ none) in omega arith

      own_place : AreUnlike key (f old) → (key e).at % 1024 ≡ place
      own_place unlike = (placed place below (key e) (ap (λ l. contains_key (by_key key l) (key e)) (sym item) ∙ ap is_some (found_at unlike))).1

      module _ (first : IsSomeAnd (slice_get (slot_at (map f slots) place) index) (λ e. IsFirst (all_by_key key (map f slots)) (key e) e)) where
        pub found_first : IsFirst (all_by_key key (map f slots)) (key e) e
        found_first = subst (λ o. IsSomeAnd o (λ e. IsFirst (all_by_key key lists) (key e) e)) (ap (λ l. slice_get l index) (sym item) ∙ at) first

        first_here : AreUnlike key (f old) → IsFirst (by_key key (f old)) (key e) e
        first_here unlike = record {
          here = found_at unlike;
          least = λ q here.
              let there : contains_key (by_key key (slot_at lists place)) q ≡ true = ap (λ l. contains_key (by_key key l) q) (sym item) ∙ here in
              found_first.least q (ap is_some (wheels.get_in key base lists (wheels.as_many f slots sized) placed place q below there) ∙ there);
        }

      pub told_in_slot : slice_get (slot_at (map f slots) place) index ≡ Some e
      told_in_slot = ap (λ l. slice_get l index) (sym item) ∙ at

    -- the first of all is the first of its slot
    module _ (index : ℕ) (first : IsSomeAnd (slice_get (slot_at (map f slots) place) index) (λ e. IsFirst (all_by_key key (map f slots)) (key e) e)) where
      one : (e : E) × (slice_get (f old) index ≡ Some e)
      one = let there = some_of (slice_get (slot_at lists place) index) _ first in (there.0, ap (λ l. slice_get l index) item ∙ there.1)

      pub within_slot : index < length (f old)
      within_slot = slice_get_within (f old) index one.0 one.1

      pub first_in_slot : AreUnlike key (f old) → IsSomeAnd (slice_get (f old) index) (λ e. IsFirst (by_key key (f old)) (key e) e)
      first_in_slot unlike = subst (λ o. IsSomeAnd o (λ e. IsFirst (by_key key (f old)) (key e) e)) (sym one.1) (first_here index one.0 one.1 first unlike)

    module _ (first : IsFirstPlace base (map f slots) place) where
      pub first_of_all : (k : Key) (e : E) → IsFirst (by_key key (f old)) k e → IsFirst (all_by_key key (map f slots)) k e
      first_of_all k e h = wheels.first_of_all key base lists (wheels.as_many f slots sized) placed place first k e (subst (λ l. IsFirst (by_key key l) k e) item h)

      pub none_of_all : (limit : Key) → NoneIsBefore (by_key key (f old)) limit → NoneIsBefore (all_by_key key (map f slots)) limit
      none_of_all limit h = wheels.none_of_all key base lists (wheels.as_many f slots sized) placed place first limit (subst (λ l. NoneIsBefore (by_key key l) limit) item h)

      pub least_of_all : (o : Option Key) → IfSome o (λ k. IsLeastKey (by_key key (f old)) k) → IfSome o (λ k. IsLeastKey (all_by_key key (map f slots)) k)
      least_of_all None h = tt
      least_of_all (Some k) h = wheels.least_of_all key base lists (wheels.as_many f slots sized) placed place first k (subst (λ l. IsLeastKey (by_key key l) k) item h)

      pub some_least : (o : Option Key) → IfNone o (by_key key (f old) ≡ empty) → IfNone o (all_by_key key (map f slots) ≡ empty)
      some_least None h = absurd (first.some (sym item ∙ list_empty key (f old) h))
      some_least (Some k) h = tt

    module _ (s : S) where
      abbrev after : List (List E)
      after = map f (set slots place s)

      others : (other : ℕ) → ¬ (other ≡ place) → slot_at after other ≡ slot_at lists other
      others = wheels.elsewhere f slots place within s

      here : slot_at after place ≡ f s
      here = wheels.at_place f slots place within s

      -- ---- the same events in it

      kept : by_key key (f s) ≡ by_key key (f old) → (other : ℕ) → by_key key (slot_at after other) ≡ by_key key (slot_at lists other)
      kept same other = by_place (cases_eq other place)
        where
          by_place : (other ≡ place) ⊎ (other ≡ place → ⊥) → by_key key (slot_at after other) ≡ by_key key (slot_at lists other)
          by_place (inl at) = ap (λ n. by_key key (slot_at after n)) at ∙ ap (by_key key) here ∙ same ∙ ap (by_key key) item ∙ ap (λ n. by_key key (slot_at lists n)) (sym at)
          by_place (inr differs) = ap (by_key key) (others other differs)

      pub placed_kept : by_key key (f s) ≡ by_key key (f old) → ArePlaced key base (map f (set slots place s))
      placed_kept same = wheels.placed_same key base base lists after (wheels.as_many f slots sized) (wheels.still_as_many f slots place within s sized) placed (kept same)

      pub all_kept : by_key key (f s) ≡ by_key key (f old) → all_by_key key (map f (set slots place s)) ≡ all_by_key key (map f slots)
      all_kept same = wheels.all_same key base base lists after (wheels.as_many f slots sized) (wheels.still_as_many f slots place within s sized) placed (placed_kept same) (kept same)

      pub marked_kept : (words : List ℕ) → AreMarked words (map f slots) → by_key key (f s) ≡ by_key key (f old) → AreMarked words (map f (set slots place s))
      marked_kept words marked same other there = (
        λ unmarked. list_empty key (slot_at after other) (kept same other ∙ set_empty key (slot_at lists other) ((marked other there).0 unmarked)),
        λ none. (marked other there).1 (list_empty key (slot_at lists other) (sym (kept same other) ∙ set_empty key (slot_at after other) none)),
      )

      -- the first of the slot is the first of all
      pub first_at : (index : ℕ) → by_key key (f s) ≡ by_key key (f old) → IsFirstPlace base (map f slots) place → IsSomeAnd (slice_get (f s) index) (λ e. IsFirst (by_key key (f s)) (key e) e)
          → IsSomeAnd (slice_get (slot_at (map f (set slots place s)) place) index) (λ e. IsFirst (all_by_key key (map f (set slots place s))) (key e) e)
      first_at index same first given =
          subst (λ l. IsSomeAnd (slice_get l index) (λ e. IsFirst (all_by_key key after) (key e) e)) (sym here)
          (some_and (slice_get (f s) index) given (λ e is. subst (λ m. IsFirst m (key e) e) (sym (all_kept same)) (first_of_all first (key e) e (subst (λ m. IsFirst m (key e) e) same is))))

      pub told_at : (index : ℕ) (P : E → Type 0) → IfSome (slice_get (f s) index) P → IfSome (slice_get (slot_at (map f (set slots place s)) place) index) P
      told_at index P given = subst (λ l. IfSome (slice_get l index) P) (sym here) given

      -- ---- an event more in it

      module _ (k : Key) (at : k.at % 1024 ≡ place) (e : E) where
        pushed_here : by_key key (f s) ≡ insert (by_key key (f old)) k e → by_key key (slot_at after place) ≡ insert (by_key key (slot_at lists place)) k e
        pushed_here pushed = ap (by_key key) here ∙ pushed ∙ ap (λ l. insert (by_key key l) k e) item

        pub placed_pushed : Spans base k.at → by_key key (f s) ≡ insert (by_key key (f old)) k e → ArePlaced key base (map f (set slots place s))
        placed_pushed spans pushed =
            wheels.placed_pushed key base base lists after (wheels.as_many f slots sized) (wheels.still_as_many f slots place within s sized) placed place below k at others spans e (pushed_here pushed)

        pub all_pushed : Spans base k.at → by_key key (f s) ≡ insert (by_key key (f old)) k e → all_by_key key (map f (set slots place s)) ≡ insert (all_by_key key (map f slots)) k e
        all_pushed spans pushed =
            wheels.all_pushed key base base lists after (wheels.as_many f slots sized) (wheels.still_as_many f slots place within s sized) placed place below k at others (placed_pushed spans pushed) e
            (pushed_here pushed)

        pub marked_pushed : (words words' : List ℕ) → AreMarked words (map f slots) → mark_at words' place ≡ 1 → ((other : ℕ) → other < 1024 → other ≢ place → mark_at words' other ≡ mark_at words other)
            → by_key key (f s) ≡ insert (by_key key (f old)) k e → AreMarked words' (map f (set slots place s))
        marked_pushed words words' marked one marks pushed =
            wheels.marked_set key base base lists after (wheels.as_many f slots sized) (wheels.still_as_many f slots place within s sized) words words' marked place others marks one
            (λ none. false≢true (
            sym (ap is_some (get-empty key_cmp k)) ∙ sym (ap (λ m. contains_key m k) (set_empty key (f s) (sym here ∙ none))) ∙ ap (λ m. contains_key m k) pushed
            ∙ ap is_some (get-insert key_total (by_key key (f old)) k e k) ∙ ap (λ b. is_some (cond b (Some e) (get (by_key key (f old)) k))) (ap is_eq (tied_itself key_total k))))

      -- ---- an event taken out of it

      module _ (index : ℕ) (e : E) (at : slice_get (f old) index ≡ Some e) (unlike : AreUnlike key (f old)) (taken : by_key key (f s) ≡ remove (by_key key (f old)) (key e)) where
        taken_here : by_key key (slot_at after place) ≡ remove (by_key key (slot_at lists place)) (key e)
        taken_here = ap (by_key key) here ∙ taken ∙ ap (λ l. remove (by_key key l) (key e)) item

        module _ (first : IsSomeAnd (slice_get (slot_at (map f slots) place) index) (λ e. IsFirst (all_by_key key (map f slots)) (key e) e)) where
          pub placed_taken : (base' : ℕ) → base' ≡ (key e).at → ArePlaced key base' (map f (set slots place s))
          placed_taken base' rises =
              wheels.placed_popped key base base' lists after (wheels.as_many f slots sized) (wheels.still_as_many f slots place within s sized) placed place below (key e) (own_place index e at unlike) others rises e (found_first index e at first) taken_here

          pub all_taken : all_by_key key (map f (set slots place s)) ≡ remove (all_by_key key (map f slots)) (key e)
          all_taken =
              wheels.all_popped key base (key e).at lists after (wheels.as_many f slots sized) (wheels.still_as_many f slots place within s sized) placed place below (key e) (own_place index e at unlike) others (placed_taken (key e).at refl) taken_here

        module _ (count : ℕ) (counted : count ≡ length (f old)) (fewer : length (f s) + 1 ≡ length (f old)) where
          -- the mark goes with the only event
          pub marked_taken : (words words' : List ℕ) → AreMarked words (map f slots) → (nat_le count 1 ≡ true → mark_at words' place ≡ 0) → (nat_le count 1 ≡ false → mark_at words' place ≡ mark_at words place)
              → ((other : ℕ) → other < 1024 → other ≢ place → mark_at words' other ≡ mark_at words other) → AreMarked words' (map f (set slots place s))
          marked_taken words words' marked cleared stays marks = by_test (cases_Bool (nat_le count 1))
            where
              by_test : (nat_le count 1 ≡ true) ⊎ (nat_le count 1 ≡ false) → AreMarked words' (map f (set slots place s))
              by_test (inl only) =
                  wheels.marked_clear key base base lists after (wheels.as_many f slots sized) (wheels.still_as_many f slots place within s sized) words words' marked place others marks (cleared only)
                  (here ∙ nil_from_length (f s) (omega (arith, counted, fewer, leb-true count 1 only)))
              by_test (inr more) =
                  wheels.marked_but key base base lists after (wheels.as_many f slots sized) (wheels.still_as_many f slots place within s sized) words words' marked place others marks (
                    λ unmarked. absurd (some index e at ((marked place below).0 (sym (stays more) ∙ unmarked))),
                    λ none. absurd (let empty = ap length (sym here ∙ none) in false≢true (sym more ∙ le-leb count 1 (omega (arith, counted, fewer, empty)))),
                  )

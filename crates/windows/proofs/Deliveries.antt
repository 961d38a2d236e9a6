-- An event is handled, and what is made of it is delivered.
use Rattle.std.proofs.Common.{◌≡◌, ◌≢◌, ℕ, Bool, true, false, not, cond, arith, List, [], ◌∷◌, ◌++◌, map, Some, None, Result, Ok, Err, OnOk, append_assoc, ap, ◌∙◌, sym, subst, refl}
use Rattle.std.specs.Option.{is_some, option_map}
use Rattle.std.specs.List.{AllByRecursion, list_all}
use Rattle.std.specs.Ordering.{nat_cmp, eq_by_cmp}
use Rattle.std.specs.FinMap.{FinMap, get, empty, contains_key, insert, get-insert}
use Rattle.std.proofs.lemmas.List.{append-nil, map-append}
use Rattle.std.proofs.lemmas.List.Elements.{filter-append}
use Rattle.member_laws.proofs.Carried.{all_filter}
use Rattle.windows.proofs.Swaps.{NoneIs, with_events-insert, with_events-with_events}
use Rattle.windows.proofs.Cuts.{joined_joined}
use Rattle.member.specs.declared.event_kind.EventKind.{EventKind}
use Rattle.base.specs.declared.key.Key.{Key}
use Rattle.base.specs.Order.{key_cmp, key_total}
use Rattle.base.specs.World.{World, with_events, events_of, rows_of}
use Rattle.base.specs.Run.{tells}
use Rattle.base.specs.Rising.{IsRising, AreNew}
use Rattle.scenario.specs.Setup.{Setup}
use Rattle.member.specs.declared.event.Event.{Event}
use Rattle.member.specs.declared.event.Effects.{Effects}
use Rattle.member.specs.State.{State}
use Rattle.member.specs.Step.{step}
use Rattle.member.specs.StateOf.{pair_of}
use Rattle.windows.specs.Parts.{for_own, for_others}
use Rattle.windows.specs.Handling.{Handles, HaveOwnPended, made_of, members_after}

-- what follows from what holds on success
pub if_ok : {T E P Q : Type 0} (r : Result T E) → OnOk r P → (P → Q) → OnOk r Q
if_ok (Ok _) p so = so p
if_ok (Err _) p so = tt

module _ (s : Setup) (event : Event) (held held_after : FinMap nat_cmp State) (before : Effects) where
  -- nobody made anything of it
  pub handled_by_none : get held event.key.to ≡ None → held_after ≡ held → Handles s event held held_after before before
  handled_by_none none same =
      let made : made_of s held event ≡ None = ap (option_map (step s event.key event.content)) none in
      record {
        members = same ∙ ap (members_after held event) (sym made);
        events = sym (append-nil (map pair_of before.events.items)) ∙ ap (λ o. map pair_of before.events.items ++ events_of o) (sym made);
        rows = sym (append-nil before.rows.items) ∙ ap (λ o. before.rows.items ++ rows_of o) (sym made);
      }

  -- its receiver made this of it
  pub handled_by : (after : Effects) (t : State) → get held event.key.to ≡ Some t → held_after ≡ insert held event.key.to (step s event.key event.content t).state
      → map pair_of after.events.items ≡ map pair_of before.events.items ++ (step s event.key event.content t).events
      → after.rows.items ≡ before.rows.items ++ (step s event.key event.content t).rows → Handles s event held held_after before after
  handled_by after t here changed events rows =
      let made : made_of s held event ≡ Some (step s event.key event.content t) = ap (option_map (step s event.key event.content)) here in
      record {
        members = changed ∙ ap (members_after held event) (sym made);
        events = events ∙ ap (λ o. map pair_of before.events.items ++ events_of o) (sym made);
        rows = rows ∙ ap (λ o. before.rows.items ++ rows_of o) (sym made);
      }

-- ---- deliveries

-- what holds of all holds of one of them, and a rising list before one of its items
pub all_at : {X : Type 0} (P : X → Type 0) (xs ys : List X) (x : X) → AllByRecursion P (xs ++ x ∷ ys) → P x
all_at P [] ys x all = all.0
all_at P (y ∷ xs) ys x all = all_at P xs ys x all.1

pub all_before : {X : Type 0} (before : X → X → Type 0) (xs ys : List X) (x : X) → IsRising before (xs ++ x ∷ ys) → AllByRecursion (λ y. before y x) xs
all_before before [] ys x rising = tt
all_before before (y ∷ xs) ys x rising = (all_at (before y) xs ys x rising.0, all_before before xs ys x rising.1)

module _ {C : Type 0} where
  -- a key that isn't there isn't once another is
  pub absent_inserted : (pending : FinMap key_cmp C) (k q : Key) (c : C) → k ≢ q → contains_key pending q ≡ false → contains_key (insert pending k c) q ≡ false
  absent_inserted pending k q c other absent = either (eq_by_cmp key_cmp q k) refl
    where
      either : (b : Bool) → eq_by_cmp key_cmp q k ≡ b → contains_key (insert pending k c) q ≡ false
      either true e = absurd (other (sym (tells q k e)))
      either false e = ap is_some (get-insert key_total pending k c q ∙ ap (λ b. cond b (Some c) (get pending q)) e) ∙ absent

  absent_with : (es : List (Key × C)) (pending : FinMap key_cmp C) (q : Key) → NoneIs q es → contains_key pending q ≡ false → contains_key (with_events pending es) q ≡ false
  absent_with [] pending q none absent = absent
  absent_with (e ∷ es) pending q none absent = absent_with es (insert pending e.0 e.1) q none.1 (absent_inserted pending e.0 q e.1 none.0 absent)

  -- of new events each is new also once those before it that are kept pend
  pub still_new : (owns : ℕ → Bool) (pending : FinMap key_cmp C) (all es fs : List (Key × C)) (e : Key × C) → all ≡ es ++ e ∷ fs → AreNew pending all
      → contains_key (with_events pending (for_own owns es)) e.0 ≡ false
  still_new owns pending all es fs e is new =
      absent_with (for_own owns es) pending e.0
      (all_filter (λ f. f.0 ≢ e.0) (λ f. owns f.0.to) es (all_before (λ f g. f.0 ≢ g.0) es fs e (subst (IsRising (λ f g. f.0 ≢ g.0)) is new.unlike_each_other)))
      (all_at (λ f. contains_key pending f.0 ≡ false) es fs e (subst (AllByRecursion (λ f. contains_key pending f.0 ≡ false)) is new.unlike_pending))

module _ (owns : ℕ → Bool) where
  -- one event more pends
  pub one_more_own : (pending now after : FinMap key_cmp EventKind) (events : List Event) (event : Event) → now ≡ with_events pending (for_own owns (map pair_of events))
      → after ≡ with_events now (for_own owns (pair_of event ∷ [])) → after ≡ with_events pending (for_own owns (map pair_of (events ++ event ∷ [])))
  one_more_own pending now after events event so_far one =
      one ∙ ap (λ m. with_events m (for_own owns (pair_of event ∷ []))) so_far
      ∙ ap (λ (w : World State EventKind). w.pending) (joined_joined (record { members = empty; pending = pending }) (for_own owns (map pair_of events)) (for_own owns (pair_of event ∷ [])))
      ∙ ap (with_events pending) (sym (filter-append (λ e. owns e.0.to) (map pair_of events) (pair_of event ∷ [])))
      ∙ ap (λ l. with_events pending (for_own owns l)) (sym (map-append pair_of events (event ∷ [])))

  -- one event more goes out
  pub one_more_other : (out now after : List (Key × EventKind)) (events : List Event) (event : Event) → now ≡ out ++ for_others owns (map pair_of events)
      → after ≡ now ++ for_others owns (pair_of event ∷ []) → after ≡ out ++ for_others owns (map pair_of (events ++ event ∷ []))
  one_more_other out now after events event so_far one =
      one ∙ ap (λ l. l ++ for_others owns (pair_of event ∷ [])) so_far
      ∙ append_assoc out (for_others owns (map pair_of events)) (for_others owns (pair_of event ∷ []))
      ∙ ap (λ l. out ++ l) (sym (filter-append (λ e. not (owns e.0.to)) (map pair_of events) (pair_of event ∷ [])))
      ∙ ap (λ l. out ++ for_others owns l) (sym (map-append pair_of events (event ∷ [])))

-- an event that pends where it is for one of these members
pub kept_if_own : {E : Type 0} (result : Result (Unit {0}) E) (own : Bool) (pending after : FinMap key_cmp EventKind) (event : Event) → own ≡ true → OnOk result (after ≡ insert pending event.key event.content)
    → OnOk result (after ≡ with_events pending (cond own (pair_of event ∷ []) []))
kept_if_own (Ok _) own pending after event is pushed = pushed ∙ ap (λ b. with_events pending (cond b (pair_of event ∷ []) [])) (sym is)
kept_if_own (Err _) own pending after event is pushed = tt

-- ---- events of which the last pends first

-- those that stand after an item come after it
all_after : {X : Type 0} (before : X → X → Type 0) (xs ys : List X) (x : X) → IsRising before (xs ++ x ∷ ys) → AllByRecursion (before x) ys
all_after before [] ys x rising = rising.0
all_after before (y ∷ xs) ys x rising = all_after before xs ys x rising.1

none_is : {C : Type 0} (k : Key) (es : List (Key × C)) → AllByRecursion (λ e. k ≢ e.0) es → NoneIs k es
none_is k [] all = tt
none_is k (e ∷ es) all = (λ same. all.0 (sym same), none_is k es all.1)

-- of events that are all for these members each is kept, and none goes out
all_kept : (owns : ℕ → Bool) (events : List Event) → list_all (λ (e : Event). owns e.key.to) events ≡ true → for_own owns (map pair_of events) ≡ map pair_of events
all_kept owns [] all = refl
all_kept owns (e ∷ es) all = grind (arith, all_kept owns es)

none_sent : (owns : ℕ → Bool) (events : List Event) → list_all (λ (e : Event). owns e.key.to) events ≡ true → for_others owns (map pair_of events) ≡ []
none_sent owns [] all = refl
none_sent owns (e ∷ es) all = grind (arith, none_sent owns es)

-- an event for one of these members, and others
one_more : (owns : ℕ → Bool) (event : Event) (events : List Event) → owns event.key.to ≡ true → list_all (λ (e : Event). owns e.key.to) events ≡ true
    → list_all (λ (e : Event). owns e.key.to) (event ∷ events) ≡ true
one_more owns event events one all = grind (arith, one, all)

module _ (owns : ℕ → Bool) where
  pub none_pended : (pending : FinMap key_cmp EventKind) (all : List Event) → HaveOwnPended owns pending pending all all
  none_pended pending all = record { after = []; split = sym (append-nil all); own = refl; pend = refl }

  -- the same of another list of those that are left
  pub still_left : (pending now : FinMap key_cmp EventKind) (all left same : List Event) → same ≡ left → HaveOwnPended owns pending now all left → HaveOwnPended owns pending now all same
  still_left pending now all left same is have =
      record { after = have.after; split = have.split ∙ ap (λ l. l ++ have.after) (sym is); own = have.own; pend = have.pend }

  module _ (pending now : FinMap key_cmp EventKind) (all left rest : List Event) (event : Event) (have : HaveOwnPended owns pending now all left) (last : left ≡ rest ++ event ∷ []) (new : AreNew pending (map pair_of all)) where
    pairs : map pair_of all ≡ map pair_of rest ++ pair_of event ∷ map pair_of have.after
    pairs = ap (map pair_of) (have.split ∙ ap (λ l. l ++ have.after) last ∙ append_assoc rest (event ∷ []) have.after) ∙ map-append pair_of rest (event ∷ have.after)

    none_after : NoneIs event.key (map pair_of have.after)
    none_after =
        none_is event.key (map pair_of have.after)
        (all_after (λ f g. f.0 ≢ g.0) (map pair_of rest) (map pair_of have.after) (pair_of event) (subst (IsRising (λ f g. f.0 ≢ g.0)) pairs new.unlike_each_other))

    -- the last of those that are left doesn't pend yet
    pub last_is_new : contains_key now event.key ≡ false
    last_is_new =
        ap (λ m. contains_key m event.key) have.pend
        ∙ absent_with (map pair_of have.after) pending event.key none_after
        (all_at (λ f. contains_key pending f.0 ≡ false) (map pair_of rest) (map pair_of have.after) (pair_of event) (subst (AllByRecursion (λ f. contains_key pending f.0 ≡ false)) pairs new.unlike_pending))

    -- it pends too, where it is for one of these members
    pub last_pended : (next : FinMap key_cmp EventKind) → owns event.key.to ≡ true → next ≡ insert now event.key event.content → HaveOwnPended owns pending next all rest
    last_pended next mine one =
        record {
          after = event ∷ have.after;
          split = have.split ∙ ap (λ l. l ++ have.after) last ∙ append_assoc rest (event ∷ []) have.after;
          own = one_more owns event have.after mine have.own;
          pend = one ∙ ap (λ m. insert m event.key event.content) have.pend ∙ sym (with_events-insert (map pair_of have.after) pending event.key event.content none_after);
        }

-- ---- what becomes of all events, where the last ones pend first

-- what holds of all holds of the first ones
first_ones : {X : Type 0} (P : X → Type 0) (xs ys : List X) → AllByRecursion P (xs ++ ys) → AllByRecursion P xs
first_ones P [] ys all = tt
first_ones P (x ∷ xs) ys all = (all.0, first_ones P xs ys all.1)

first_rising : {X : Type 0} (before : X → X → Type 0) (xs ys : List X) → IsRising before (xs ++ ys) → IsRising before xs
first_rising before [] ys rising = tt
first_rising before (x ∷ xs) ys rising = (first_ones (before x) xs ys rising.0, first_rising before xs ys rising.1)

last_ones : {X : Type 0} (P : X → Type 0) (xs ys : List X) → AllByRecursion P (xs ++ ys) → AllByRecursion P ys
last_ones P [] ys all = all
last_ones P (x ∷ xs) ys all = last_ones P xs ys all.1

module _ {C : Type 0} where
  -- of events with different keys none of the first has the key of one of the others
  apart_from : (es fs : List (Key × C)) → IsRising (λ e f. e.0 ≢ f.0) (es ++ fs) → AllByRecursion (λ e. NoneIs e.0 fs) es
  apart_from [] fs rising = tt
  apart_from (e ∷ es) fs rising = (none_is e.0 fs (last_ones (λ f. e.0 ≢ f.0) es fs rising.0), apart_from es fs rising.1)

  absent_each : (es fs : List (Key × C)) (pending : FinMap key_cmp C) → AllByRecursion (λ e. NoneIs e.0 fs) es → AllByRecursion (λ e. contains_key pending e.0 ≡ false) es
      → AllByRecursion (λ e. contains_key (with_events pending fs) e.0 ≡ false) es
  absent_each [] fs pending apart absent = tt
  absent_each (e ∷ es) fs pending apart absent = (absent_with fs pending e.0 apart.0 absent.0, absent_each es fs pending apart.1 absent.1)

module _ (owns : ℕ → Bool) (pending now : FinMap key_cmp EventKind) (all left : List Event) (have : HaveOwnPended owns pending now all left) (new : AreNew pending (map pair_of all)) where
  both : map pair_of all ≡ map pair_of left ++ map pair_of have.after
  both = ap (map pair_of) have.split ∙ map-append pair_of left have.after

  apart : AllByRecursion (λ e. NoneIs e.0 (map pair_of have.after)) (map pair_of left)
  apart = apart_from (map pair_of left) (map pair_of have.after) (subst (IsRising (λ e f. e.0 ≢ f.0)) both new.unlike_each_other)

  -- those that are left are new still
  pub left_are_new : AreNew now (map pair_of left)
  left_are_new =
      subst (λ m. AreNew m (map pair_of left)) (sym have.pend)
      (record {
        unlike_pending =
            absent_each (map pair_of left) (map pair_of have.after) pending apart
            (first_ones (λ e. contains_key pending e.0 ≡ false) (map pair_of left) (map pair_of have.after) (subst (AllByRecursion (λ e. contains_key pending e.0 ≡ false)) both new.unlike_pending));
        unlike_each_other = first_rising (λ e f. e.0 ≢ f.0) (map pair_of left) (map pair_of have.after) (subst (IsRising (λ e f. e.0 ≢ f.0)) both new.unlike_each_other);
      })

  -- those for these members are the ones that are left for them, and those that pend
  own_ones : for_own owns (map pair_of all) ≡ for_own owns (map pair_of left) ++ map pair_of have.after
  own_ones =
      ap (for_own owns) both ∙ filter-append (λ e. owns e.0.to) (map pair_of left) (map pair_of have.after)
      ∙ ap (λ l. for_own owns (map pair_of left) ++ l) (all_kept owns have.after have.own)

  -- once those that are left pend too, where they are for these members, all do
  pub own_pended : (next : FinMap key_cmp EventKind) → next ≡ with_events now (for_own owns (map pair_of left)) → next ≡ with_events pending (for_own owns (map pair_of all))
  own_pended next one =
      one ∙ ap (λ m. with_events m (for_own owns (map pair_of left))) have.pend
      ∙ sym (with_events-with_events (for_own owns (map pair_of left)) (map pair_of have.after) pending (all_filter (λ e. NoneIs e.0 (map pair_of have.after)) (λ e. owns e.0.to) (map pair_of left) apart))
      ∙ ap (λ (w : World State EventKind). w.pending) (joined_joined (record { members = empty; pending = pending }) (for_own owns (map pair_of left)) (map pair_of have.after))
      ∙ ap (with_events pending) (sym own_ones)

  -- those for others are all among those that are left
  other_ones : for_others owns (map pair_of all) ≡ for_others owns (map pair_of left)
  other_ones =
      ap (for_others owns) both ∙ filter-append (λ e. not (owns e.0.to)) (map pair_of left) (map pair_of have.after)
      ∙ ap (λ l. for_others owns (map pair_of left) ++ l) (none_sent owns have.after have.own) ∙ append-nil (for_others owns (map pair_of left))

  pub others_sent : (out next : List (Key × EventKind)) → next ≡ out ++ for_others owns (map pair_of left) → next ≡ out ++ for_others owns (map pair_of all)
  others_sent out next sent = sent ∙ ap (λ l. out ++ l) (sym other_ones)

  -- where none is left, all pend, and none goes out
  pub none_left_own : left ≡ [] → now ≡ with_events pending (for_own owns (map pair_of all))
  none_left_own none = own_pended now (ap (λ l. with_events now (for_own owns (map pair_of l))) (sym none))

  pub none_left_others : (out : List (Key × EventKind)) → left ≡ [] → out ≡ out ++ for_others owns (map pair_of all)
  none_left_others out none = others_sent out out (sym (append-nil out) ∙ ap (λ l. out ++ for_others owns (map pair_of l)) (sym none))

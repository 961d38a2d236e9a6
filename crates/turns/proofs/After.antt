-- What the turn of all parts makes of the world that they stand for.
use Rattle.std.proofs.Common.{◌≡◌, ℕ, zero, suc, ◌+◌, ◌<◌, ◌≤◌, Bool, true, false, cond, nat_lt, unwrap_or, List, [], ◌∷◌, ◌++◌, map, length, Option, Some, None, ap, ◌∙◌, sym, subst, refl, arith, inl, inr}
use Rattle.std.specs.Option.{is_some, option_map}
use Rattle.std.specs.Ordering.{eq_by_cmp, is_eq}
use Rattle.std.specs.Cmp.{tied_itself}
use Rattle.std.specs.List.{AllByRecursion, slice_get, flat_map, filter}
use Rattle.std.specs.List.Sorted.{IsPermutation}
use Rattle.std.specs.FinMap.{FinMap, get, contains_key, insert, get-insert}
use Rattle.std.proofs.lemmas.Bool.{false≢true, eq-eqb, ltb-true, ltb-false}
use Rattle.std.proofs.lemmas.Option.{slice_get-map, slice_get_past, slice_get_within}
use Rattle.std.proofs.lemmas.List.Elements.{recursion_from_All}
use Rattle.base.specs.declared.key.Key.{Key}
use Rattle.base.specs.Order.{key_cmp, key_total}
use Rattle.base.specs.World.{IsPending, IsOver, Run, with_events}
use Rattle.base.specs.Rising.{AreNew}
use Rattle.base.proofs.Rising.{all_weaker}
use Rattle.scenario.specs.Setup.{Setup, IsSound, member_count}
use Rattle.scenario.specs.Division.{Deal}
use Rattle.trace.specs.declared.row.Row.{Row}
use Rattle.member.specs.declared.event_kind.EventKind.{EventKind}
use Rattle.member.specs.declared.event.Event.{Event}
use Rattle.member.specs.State.{State}
use Rattle.member.specs.Step.{step}
use Rattle.member.specs.StateOf.{pair_of}
use Rattle.member_laws.specs.Runs.{Cluster, IsSoundCluster}
use Rattle.windows.specs.declared.bounded.Bounded.{Bounded}
use Rattle.windows.specs.declared.part.Part.{Part}
use Rattle.windows.specs.declared.part.Done.{Done}
use Rattle.windows.specs.Parts.{Window, IsWindowOfItsPart, part_of, is_in, for_own, with_arrivals, all_keys, all_rows, all_out, IncludesPart, AreWindowsOfDifferentParts, StandsAfter}
use Rattle.windows.specs.Cluster.{IsWholeCluster, IsClearOf}
use Rattle.windows.specs.Schedule.{Schedule, MeetsState}
use Rattle.windows.proofs.Wholes.{pending_kept}
use Rattle.windows.proofs.Members.{sent_new, receiver_low}
use Rattle.windows.proofs.Horizons.{clear_windows, clear_none_left, clear_rows, clear_met}
use Rattle.windows.specs.WorldOf.{world_of}
use Rattle.windows.specs.Window.{is_own}
use Rattle.windows.specs.Several.{RanWindows}
use Rattle.windows.proofs.PartRuns.{own_run}
use Rattle.lookahead.specs.Between.{part_number}
use Rattle.turns.specs.Parts.{CountFrom, HaveTheirMembers, StandFor, MayTurn, HaveCome}
use Rattle.turns.proofs.Coming.{behind}
use Rattle.turns.proofs.Turning.{many, windows_from, rows_same, has_window, out_same, same_count, are_windows, fact_by_number, own_by_part, numbers_stay}
use Rattle.turns.proofs.Ends.{schedule_end, whole_after}

-- ---- events that pend once they have come

module _ {C : Type 0} where
  pend_on : (es : List (Key × C)) (pending : FinMap key_cmp C) (q : Key) → contains_key pending q ≡ true → contains_key (with_events pending es) q ≡ true
  pend_on [] pending q here = here
  pend_on (e ∷ es) pending q here = pend_on es (insert pending e.0 e.1) q (ap is_some (get-insert key_total pending e.0 e.1 q) ∙ either (eq_by_cmp key_cmp q e.0) here)
    where
      either : (b : Bool) → is_some (get pending q) ≡ true → is_some (cond b (Some e.1) (get pending q)) ≡ true
      either true here = refl
      either false here = here

  all_pend : (es : List (Key × C)) (pending : FinMap key_cmp C) → AllByRecursion (λ e. contains_key (with_events pending es) e.0 ≡ true) es
  all_pend [] pending = tt
  all_pend (e ∷ es) pending = (
    pend_on es (insert pending e.0 e.1) e.0
        (ap is_some (get-insert key_total pending e.0 e.1 e.0) ∙ ap (λ b. is_some (cond b (Some e.1) (get pending e.0))) (ap is_eq (tied_itself key_total e.0))),
    all_pend es (insert pending e.0 e.1),
  )

among_all : {A : Type 0} (test : A → Bool) (P : A → Type 0) (xs : List A) → AllByRecursion P (filter test xs) → AllByRecursion (λ x. test x ≡ true → P x) xs
among_all test P [] all = tt
among_all test P (x ∷ xs) all = either (test x) refl all (among_all test P xs)
  where
    either : (b : Bool) → test x ≡ b → AllByRecursion P (cond b (x ∷ filter test xs) (filter test xs)) → (AllByRecursion P (filter test xs) → AllByRecursion (λ x. test x ≡ true → P x) xs)
        → (test x ≡ true → P x) × AllByRecursion (λ x. test x ≡ true → P x) xs
    either true e all rest = (λ passes. all.0, rest all.1)
    either false e all rest = (λ passes. absurd (false≢true (sym e ∙ passes)), rest all)

pub of_events : (P : Key → Type 0) (es : List Event) → AllByRecursion (λ (e : Key × EventKind). P e.0) (map pair_of es) → AllByRecursion (λ (e : Event). P e.key) es
of_events P [] all = tt
of_events P (e ∷ es) all = (all.0, of_events P es all.1)

module _ {Q : Type 0} (set : Q → FinMap key_cmp Event) (s : Setup) (sound : IsSound s) (deal : Deal) (ps : List (Bounded Q)) (ds : List (Done Q)) (divides : length deal.part_of ≡ member_count s)
    (ready : MayTurn set s deal ps) (had : RanWindows set s ps ds) where
  abbrev pub division : ℕ → ℕ
  division = part_number deal

  abbrev pub bounds : ℕ → ℕ
  bounds = ready.horizons.bounds

  abbrev windows : List (Window State EventKind Row)
  windows = windows_from set s 0 ps ds had

  abbrev outs : List (Key × EventKind)
  outs = map pair_of (flat_map (λ (d : Done Q). d.out.items) ds)

  pub new_to_parts : (i : ℕ) (part : Part Q) → slice_get (map (λ (d : Done Q). d.part) ds) i ≡ Some part → AreNew (world_of set part).pending (for_own (is_in (part_number deal) i) outs)
  new_to_parts i part here =
      let done = behind (λ (d : Done Q). d.part) (slice_get ds i) part (sym (slice_get-map (λ (d : Done Q). d.part) ds i) ∙ here) in
      let are = are_windows set s deal divides ready.world ready.whole bounds ps ds had ready.stand ready.horizons.each in
      let all = recursion_from_All (λ (d : Window State EventKind Row). AreNew d.after.pending (for_own (is_in (part_number deal) d.part) (all_out windows))) windows
      (sent_new s (part_number deal) bounds ready.world windows sound ready.whole.numbered are) in
      let new = fact_by_number set s (λ n after. AreNew after.pending (for_own (is_in (part_number deal) n) (all_out windows))) 0 ps ds had all i done.0 done.1 in
      let same : 0 + i ≡ i = omega arith in
      subst (λ (p : Part Q). AreNew (world_of set p).pending (for_own (is_in (part_number deal) i) outs)) done.2
      (subst (λ l. AreNew (world_of set done.0.part).pending (for_own (is_in (part_number deal) i) l)) (out_same set s 0 ps ds had)
      (subst (λ n. AreNew (world_of set done.0.part).pending (for_own (is_in (part_number deal) n) (all_out windows))) same new))

  -- each part has its members after its window too
  pub members_after : HaveTheirMembers set deal (map (λ (d : Done Q). d.part) ds)
  members_after i part here m low is =
      let done = behind (λ (d : Done Q). d.part) (slice_get ds i) part (sym (slice_get-map (λ (d : Done Q). d.part) ds i) ∙ here) in
      let are = are_windows set s deal divides ready.world ready.whole bounds ps ds had ready.stand ready.horizons.each in
      let within = slice_get_within ds i done.0 done.1 in
      let stay = fact_by_number set s (λ n after. (q : ℕ) → is_own after q ≡ is_own (part_of (is_in (part_number deal) n) ready.world) q) 0 ps ds had
      (own_stay windows are.windows) i done.0 done.1 m in
      let same : 0 + i ≡ i = omega arith in
      let before : is_own (part_of (is_in (part_number deal) i) ready.world) m ≡ true =
      ap (λ (f : ℕ → Bool). f m) (own_by_part s deal ready.world i divides ready.whole (omega (arith, within, same_count set s ps ds had, many ps, ready.stand.count)))
      ∙ eq-eqb (part_number deal m) i is in
      ap (λ (p : Part Q). is_own (world_of set p) m) (sym done.2) ∙ subst (λ n. is_own (world_of set done.0.part) m ≡ is_own (part_of (is_in (part_number deal) n) ready.world) m) same stay ∙ before
    where
      own_stay : (ws : List (Window State EventKind Row)) → AllByRecursion (IsWindowOfItsPart (step s) (part_number deal) bounds ready.world) ws
          → AllByRecursion (λ (d : Window State EventKind Row). (q : ℕ) → is_own d.after q ≡ is_own (part_of (is_in (part_number deal) d.part) ready.world) q) ws
      own_stay ws are =
          all_weaker (IsWindowOfItsPart (step s) (part_number deal) bounds ready.world) _
          (λ d is q. own_run (step s) (is_in (part_number deal) d.part) (bounds d.part) d.keys (part_of (is_in (part_number deal) d.part) ready.world) d.after d.out d.rows is.run q) ws are

  pub count_after : length (map (λ (d : Done Q). d.part) ds) ≡ deal.parts
  count_after = as_many ds ∙ same_count set s ps ds had ∙ sym (many ps) ∙ ready.stand.count
    where
      as_many : (es : List (Done Q)) → length (map (λ (d : Done Q). d.part) es) ≡ length es
      as_many [] = refl
      as_many (e ∷ es) = ap suc (as_many es)

  abbrev pub are : AreWindowsOfDifferentParts (step s) (part_number deal) bounds ready.world windows
  are = are_windows set s deal divides ready.world ready.whole bounds ps ds had ready.stand ready.horizons.each

  -- the world that stands after the windows
  abbrev pub led : (v : Cluster) × Schedule (step s) (IsClearOf s division ready.horizons.between) ready.world (all_keys windows) (all_rows windows) v × StandsAfter division ready.world windows v × IsSoundCluster s v
  led = clear_windows s division ready.horizons.between bounds ready.world windows sound ready.horizons.lies ready.whole.sound ready.horizons.are are

  pub sound_led : IsSoundCluster s led.0
  sound_led = led.3

  no_window : (a i : ℕ) (ps : List (Bounded Q)) (ds : List (Done Q)) (had : RanWindows set s ps ds) → IncludesPart (windows_from set s a ps ds had) i → i < a + length ps
  no_window a i [] [] had has = absurd has
  no_window a i [] (d ∷ ds) had has = absurd had
  no_window a i (p ∷ ps) [] had has = absurd had
  no_window a i (p ∷ ps) (d ∷ ds) had (inl same) = omega arith
  no_window a i (p ∷ ps) (d ∷ ds) had (inr more) = let below = no_window (a + 1) i ps ds had.1 more in omega arith

  -- whoever is no member gets no event
  is_named : (to : ℕ) (b : Bool) → nat_lt to (length deal.part_of) ≡ b → (part_number deal to ≡ deal.parts → to < member_count s) → to < length deal.part_of
  is_named to true h later = ltb-true to (length deal.part_of) h
  is_named to false h later =
      let past = ltb-false to (length deal.part_of) h in
      let low = later (ap (λ o. unwrap_or o deal.parts) (slice_get_past deal.part_of to past)) in
      absurd (omega (arith, divides, low))

  beyond : AllByRecursion (λ (e : Key × EventKind). part_number deal e.0.to ≡ deal.parts → e.0.to < member_count s) (all_out windows)
  beyond =
      let none : ¬ (IncludesPart windows deal.parts) = λ has. let below = no_window 0 deal.parts ps ds had has in omega (arith, ready.stand.count, many ps) in
      let there = led.2.others deal.parts none in
      let own = for_own (is_in (part_number deal) deal.parts) (all_out windows) in
      let p = part_of (is_in (part_number deal) deal.parts) ready.world in
      let low : (k : Key) → contains_key (with_events p.pending own) k ≡ true → k.to < member_count s =
      λ k here. receiver_below k (pending_at k (subst (λ (x : Cluster). contains_key x.pending k ≡ true) (sym there) here)) in
      all_weaker _ (λ (e : Key × EventKind). part_number deal e.0.to ≡ deal.parts → e.0.to < member_count s)
      (λ e h same. h (eq-eqb (part_number deal e.0.to) deal.parts same)) (all_out windows)
      (among_all (λ (e : Key × EventKind). is_in (part_number deal) deal.parts e.0.to) (λ (e : Key × EventKind). e.0.to < member_count s) (all_out windows)
      (all_weaker _ (λ (e : Key × EventKind). e.0.to < member_count s) (λ e here. low e.0 here) own (all_pend own p.pending)))
    where
      pending_at : (k : Key) → IsPending (part_of (is_in (part_number deal) deal.parts) led.0) k → IsPending led.0 k
      pending_at k here = pending_kept (is_in (part_number deal) deal.parts) led.0 k here

      receiver_below : (k : Key) → IsPending led.0 k → k.to < member_count s
      receiver_below k here = by_value (get led.0.pending k) refl here
        where
          by_value : (o : Option EventKind) → get led.0.pending k ≡ o → is_some o ≡ true → k.to < member_count s
          by_value None is here = absurd (false≢true here)
          by_value (Some c) is here = (sound_led.events k c is).receiver

  pub named_out : AllByRecursion (λ (e : Event). e.key.to < length deal.part_of) (flat_map (λ (d : Done Q). d.out.items) ds)
  named_out =
      of_events (λ k. k.to < length deal.part_of) (flat_map (λ (d : Done Q). d.out.items) ds)
      (all_weaker _ (λ (e : Key × EventKind). e.0.to < length deal.part_of) (λ e later. is_named e.0.to (nat_lt e.0.to (length deal.part_of)) refl later) outs
      (subst (AllByRecursion (λ (e : Key × EventKind). part_number deal e.0.to ≡ deal.parts → e.0.to < member_count s)) (out_same set s 0 ps ds had) beyond))

  -- the parts stand for it once the events have come
  pub stand_after : (after : List (Part Q)) → HaveCome set (part_number deal) (map (λ (d : Done Q). d.part) ds) after outs → StandFor set deal after led.0
  stand_after after come = record {
    count = come.count ∙ count_after;
    numbered = subst (CountFrom 0) (sym (come.numbers ∙ numbers_stay set s ps ds had)) ready.stand.numbered;
    worlds = λ i low.
        let done = there ds i (omega (arith, low, as_many)) in
        let world = fact_by_number set s (λ n x. part_of (is_in (part_number deal) n) led.0 ≡ with_arrivals x (for_own (is_in (part_number deal) n) (all_out windows)))
        0 ps ds had led.2.parts i done.0 done.1 in
        let same : 0 + i ≡ i = omega arith in
        come.worlds i
        ∙ ap (option_map (λ (p : Part Q). with_arrivals (world_of set p) (for_own (is_in (part_number deal) i) outs))) (slice_get-map (λ (d : Done Q). d.part) ds i ∙ ap (option_map (λ (d : Done Q). d.part)) done.1)
        ∙ ap (λ l. Some (with_arrivals (world_of set done.0.part) (for_own (is_in (part_number deal) i) l))) (sym (out_same set s 0 ps ds had))
        ∙ ap Some (sym (subst (λ n. part_of (is_in (part_number deal) n) led.0 ≡ with_arrivals (world_of set done.0.part) (for_own (is_in (part_number deal) n) (all_out windows))) same world));
  }
    where
      as_many : length ds ≡ deal.parts
      as_many = same_count set s ps ds had ∙ sym (many ps) ∙ ready.stand.count

      there : (xs : List (Done Q)) (i : ℕ) → i < length xs → (d : Done Q) × (slice_get xs i ≡ Some d)
      there [] i low = absurd (omega arith)
      there (x ∷ xs) zero low = (x, refl)
      there (x ∷ xs) (suc i) low = there xs i (omega arith)

  pub whole_led : IsWholeCluster s led.0
  whole_led = whole_after s sound (IsClearOf s division ready.horizons.between) (all_keys windows) ready.world led.0 (all_rows windows) led.1 sound_led ready.whole

  -- nothing is left in it below a moment that all bounds reach
  module _ (below : (m : ℕ) → m < member_count s → part_number deal m < deal.parts) (until : ℕ) (reached : AllByRecursion (λ (b : Bounded Q). until ≤ b.bound) ps) where
    at_place : (xs : List (Bounded Q)) (i : ℕ) → i < length xs → AllByRecursion (λ (b : Bounded Q). until ≤ b.bound) xs → (b : Bounded Q) × (slice_get xs i ≡ Some b) × (until ≤ b.bound)
    at_place [] i low all = absurd (omega arith)
    at_place (x ∷ xs) zero low all = (x, refl, all.0)
    at_place (x ∷ xs) (suc i) low all = at_place xs i (omega arith) all.1

    pub none_led : (q : Key) → IsPending led.0 q → until ≤ q.at
    none_led q here =
        let named = receiver_low s led.0 q (get led.0.pending q) sound_led refl here in
        let low = below q.to named in
        let one = at_place ps (division q.to) (omega (arith, low, ready.stand.count, many ps)) reached in
        let has = has_window set s 0 (division q.to) ps ds had (omega arith) (omega (arith, low, ready.stand.count, many ps)) in
        let left = clear_none_left s division ready.horizons.between sound ready.horizons.lies bounds ready.world ready.whole.sound ready.horizons.are windows led.0 are led.2 q here has in
        let bound = ready.horizons.each (division q.to) one.0 one.1 in
        let past = one.2 in
        omega (arith, left, bound, past)

  -- the rows of all windows, and those of the run from there, are those of the run from where the windows began
  pub run_led : (left : List Row) (keys : List Key) (last : Cluster) → Run (step s) s.end led.0 keys left last → IsOver s.end last
      → (ks : List Key) × (run : List Row) × Run (step s) s.end ready.world ks run last × IsPermutation (flat_map (λ (d : Done Q). d.rows.items) ds ++ left) run
  run_led left keys last run over =
      let ends = schedule_end s sound division ready.horizons.between ready.horizons.lies (all_keys windows) ready.world led.0 last (all_rows windows) ready.whole.sound led.1
      (record { keys = keys; rows = left; run = run; over = over }) in
      let same = clear_rows s division ready.horizons.between sound ready.horizons.lies ready.world led.0 (all_keys windows) ends.keys keys (all_rows windows) ends.rows left ready.whole.sound led.1
      (record { last = last; run = ends.run; over = ends.over }) (record { last = last; run = run; over = over }) in
      (ends.keys, ends.rows, ends.run, subst (λ l. IsPermutation (l ++ left) ends.rows) (rows_same set s 0 ps ds had) same)

  pub met_led : (m : ℕ) (t : State) → MeetsState (step s) s.end led.0 m t → MeetsState (step s) s.end ready.world m t
  met_led m t = clear_met s division ready.horizons.between sound ready.horizons.lies ready.world led.0 (all_keys windows) (all_rows windows) m t ready.whole.sound led.1

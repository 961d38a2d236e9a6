-- The rows of a part's window in a round are its lot from the moment to which it had run up to its bound; where nothing is left, no rows are.
use Rattle.std.proofs.Common.{◌≡◌, ◌≢◌, ◌⊎◌, ℕ, suc, ◌+◌, ◌<◌, ◌≤◌, Bool, true, false, eqb, List, [], ◌∷◌, ◌++◌, Option, append-nil, ap, inl, inr, ◌∙◌, sym, subst, refl, arith}
use Rattle.std.specs.Option.{is_some}
use Rattle.std.specs.List.{AllByRecursion, filter}
use Rattle.std.specs.List.Sorted.{IsPermutation}
use Rattle.std.specs.FinMap.{get}
use Rattle.std.proofs.lemmas.Bool.{eqb-true, false_from_ne_true}
use Rattle.std.proofs.lemmas.Bool.Decides.{eqb_tells}
use Rattle.std.proofs.lemmas.List.Elements.{filter-append}
use Rattle.std.proofs.lemmas.List.Sorted.{IsPermutation-trans, IsPermutation-append_right}
use Rattle.base.specs.declared.key.Key.{Key}
use Rattle.base.specs.Run.{handled, trace, run-exists}
use Rattle.base.specs.World.{IsPending, IsOver, Run, settled, outcome, rows_of, events_of}
use Rattle.base.specs.Rising.{IsRising, IsPlaceBefore}
use Rattle.base.proofs.Rising.{all_append, all_weaker}
use Rattle.scenario.specs.Setup.{Setup, IsSound, member_count}
use Rattle.trace.specs.declared.row.Row.{Row}
use Rattle.member.specs.declared.event_kind.EventKind.{EventKind}
use Rattle.member.specs.State.{State}
use Rattle.member.specs.Opening.{opening}
use Rattle.member.specs.Places.{place_of}
use Rattle.member.specs.Step.{step}
use Rattle.member.proofs.Fair.{steps_later, steps_counted}
use Rattle.member_laws.specs.Runs.{Cluster, IsRunOf, IsSoundCluster}
use Rattle.windows.specs.Schedule.{TestedStep, Schedule}
use Rattle.windows.specs.Parts.{Window, IsWindowOfItsPart, AreWindowsOfDifferentParts, StandsAfter, part_of, is_in, all_keys, all_rows}
use Rattle.windows.specs.Horizon.{Walk, AreHorizons, length_of}
use Rattle.windows.specs.Cluster.{IsPeopled, LiesBetween, IsClearOf, IsWholeCluster, link_delay}
use Rattle.windows.proofs.Early.{made_all}
use Rattle.windows.proofs.Far.{all_both}
use Rattle.windows.proofs.Horizons.{clear_windows, clear_rows, clear_none_left, horizons_stay}
use Rattle.windows.proofs.Members.{keeps_delays, sound_opening, sound_stays, receiver_low}
use Rattle.windows.proofs.Outs.{IsFrom}
use Rattle.windows.proofs.Released.{rising_mapped, schedule_keyed}
use Rattle.windows.proofs.RowOrders.{part_rows_rise}
use Rattle.windows.proofs.Safety.{holds_made}
use Rattle.windows.proofs.Schedules.{with_fact}
use Rattle.windows.proofs.Sorting.{IsAtMost, IsLess}
use Rattle.windows.proofs.Wholes.{pending_in}
use Rattle.lookahead_windows.specs.Plan.{Plan, IsPlan, bound_of}
use Rattle.lookahead_windows.specs.Starts.{IsUpTo, IsRound, HasRunTo}
use Rattle.lookahead_windows.specs.Messages.{IsWindowOfRound, BeginsRound}
use Rattle.lookahead_windows.specs.Lots.{is_within, IsLot}
use Rattle.lookahead_windows.proofs.Lots.{keeps_all, keeps_none, within_from, within_parts, some_run, rows_by_place}
use Rattle.lookahead_windows.proofs.OwnRows.{by_places, places_order, less_at_most, own_keys, kept_same}
use Rattle.lookahead_windows.proofs.Turns.{bound_in_time, round_horizons}
use Rattle.lookahead_windows.proofs.Reached.{IsLed, run_leads, run_to_bound, run_to_grows, led}

module _ (s : Setup) (sound : IsSound s) (division : ℕ → ℕ) (between : ℕ → ℕ → ℕ) (lies : LiesBetween s division between) where
  -- ---- no event for a part comes before its bound

  module _ (bounds : ℕ → ℕ) (part : ℕ) where
    abbrev AreBelow : Cluster → Type 0
    AreBelow w = AreHorizons s.end division (IsPeopled s division) between bounds w

    abbrev IsLate : Cluster → Type 0
    IsLate w = (q : Key) → IsPending w q → division q.to ≡ part → bounds part ≤ q.at

    -- an event whose walks are no shorter makes none that is earlier
    abbrev MakesLate : Key → Key → Type 0
    MakesLate k e =
        k.to < member_count s → ((walk : Walk (IsPeopled s division) (division k.to) part) → bounds part ≤ k.at + length_of between walk) → (division k.to ≡ part → bounds part ≤ k.at)
        → e.to < member_count s → division e.to ≡ part → bounds part ≤ e.at

    made_late : (k e : Key) → k.at < e.at → (e.to ≢ k.to → k.at + link_delay s k.to e.to ≤ e.at) → MakesLate k e
    made_late k e later delayed low clear own e_low same = by_test (eqb_tells (division k.to) part)
      where
        by_test : ((eqb (division k.to) part ≡ true) × (division k.to ≡ part)) ⊎ ((eqb (division k.to) part ≡ false) × (division k.to ≢ part)) → bounds part ≤ e.at
        by_test (inl here) = let past = own here.1 in omega arith
        by_test (inr other) =
            let direct = clear (record { next = part; rest = []; begins = (k.to, low, refl); apart = (other.1, (e.to, e_low, same), tt); ends = refl }) in
            let least : between (division k.to) part ≤ link_delay s k.to e.to =
            subst (λ n. between (division k.to) n ≤ link_delay s k.to e.to) same (lies k.to e.to low e_low (λ back. other.1 (back ∙ same))) in
            let far = delayed (λ alike. other.1 (ap division (sym alike) ∙ same)) in
            omega arith

    all_made_late : (k : Key) (c : EventKind) (t : State) → AllByRecursion (λ (e : Key × EventKind). MakesLate k e.0) (step s k c t).events
    all_made_late k c t =
        all_weaker _ (λ (e : Key × EventKind). MakesLate k e.0) (λ e h. made_late k e.0 h.0 h.1) (step s k c t).events
        (all_both (λ (e : Key × EventKind). k.at < e.0.at) (λ (e : Key × EventKind). e.0.to ≢ k.to → k.at + link_delay s k.to e.0.to ≤ e.0.at) (step s k c t).events
        ((keeps_delays s sound).later k c t) ((keeps_delays s sound).delayed k c t))

    module _ (w v : Cluster) (k : Key) (made : List Row) (fact : IsSoundCluster s w) (below : AreBelow w) (is : TestedStep (step s) (IsClearOf s division between) w k v made) where
      sound_next : IsSoundCluster s v
      sound_next = subst (IsSoundCluster s) (sym is.world) (sound_stays s sound w k is.content fact is.here is.passes.in_time)

      below_next : AreBelow v
      below_next = horizons_stay s division between sound lies bounds w v k made fact below is

      late_next : IsLate w → IsLate v
      late_next late q here =
          let here_k : IsPending w k = ap is_some is.here in
          holds_made (step s) (λ r. r.to < member_count s → division r.to ≡ part → bounds part ≤ r.at) w k is.content (λ r there low. late r there)
          (all_weaker (λ (e : Key × EventKind). MakesLate k e.0) (λ e. e.0.to < member_count s → division e.0.to ≡ part → bounds part ≤ e.0.at)
          (λ e makes. makes (receiver_low s w k (get w.pending k) fact refl here_k) (below.clear part k here_k) (late k here_k))
          (events_of (outcome (step s) w k is.content)) (made_all (step s) MakesLate all_made_late k is.content (get w.members k.to)))
          q (subst (λ (u : Cluster). IsPending u q) is.world here) (receiver_low s v q (get v.pending q) sound_next refl here)

    late_keys : (ks : List Key) (w v : Cluster) (rows : List Row) → IsSoundCluster s w → AreBelow w → IsLate w → Schedule (step s) (IsClearOf s division between) w ks rows v
        → AllByRecursion (λ (k : Key). division k.to ≡ part → bounds part ≤ k.at) ks
    late_keys [] w v rows fact below late is = tt
    late_keys (k ∷ ks) w v rows fact below late is = (
      late k (ap is_some is.3.here),
      late_keys ks is.0 v is.2 (sound_next w is.0 k is.1 fact below is.3) (below_next w is.0 k is.1 fact below is.3) (late_next w is.0 k is.1 fact below is.3 late) is.4,
    )

    -- where all that pends in the part is not before its bound, no row of the part is that clear steps write from there on
    late_rows : (ks : List Key) (w v : Cluster) (rows : List Row) → IsSoundCluster s w → AreBelow w → IsLate w → Schedule (step s) (IsClearOf s division between) w ks rows v
        → AllByRecursion (λ (row : Row). division row.member ≡ part → bounds part ≤ row.at) rows
    late_rows ks w v rows fact below late is =
        schedule_keyed (step s) (steps_later s sound) place_of (steps_counted s sound) (λ k. division k.to ≡ part → bounds part ≤ k.at) (IsClearOf s division between) ks w v rows
        (late_keys ks w v rows fact below late is) is

  -- ---- in a world to which clear steps have led, a part's up to a moment

  module _ (w : Cluster) (keys : List Key) (rows : List Row) (schedule : Schedule (step s) (IsClearOf s division between) (opening s) keys rows w) (part from : ℕ)
      (early : AllByRecursion (λ (k : Key). division k.to ≡ part → k.at < from) keys) where
    none_within : (to : ℕ) → AllByRecursion (λ (row : Row). is_within division part from to row ≡ false) rows
    none_within to =
        all_weaker (λ (row : Row). division row.member ≡ part → row.at < from) (λ row. is_within division part from to row ≡ false)
        (λ row past. false_from_ne_true (is_within division part from to row) (λ h.
        let there = within_parts division part from to row h in
        let low = there.1 in
        let high = past (eqb-true (division row.member) part there.0) in
        omega arith))
        rows
        (schedule_keyed (step s) (steps_later s sound) place_of (steps_counted s sound) (λ k. division k.to ≡ part → k.at < from) (IsClearOf s division between) keys (opening s) w rows early schedule)

    -- where the run is over there, no rows of the part are left
    rows_over : IsOver s.end w → (to : ℕ) (run : List Row) → IsRunOf s run → [] ≡ filter (is_within division part from to) run
    rows_over over to run is =
        let none : filter (is_within division part from to) (rows ++ []) ≡ [] = ap (filter (is_within division part from to)) (append-nil rows) ∙ keeps_none (is_within division part from to) rows (none_within to) in
        sym none
        ∙ kept_same (is_within division part from to) by_places places_order.total run (rows ++ []) (rows_by_place s sound (IsLess by_places) places_order.agrees run is)
        (clear_rows s division between sound lies (opening s) w keys is.0 [] rows run [] (sound_opening s sound) schedule is.1 (record { last = w; run = (refl, refl); over = over }))
        (subst (IsRising (IsAtMost by_places)) (sym none) tt)

  -- ---- its window there

  module _ (run_leads : (ks : List Key) (u v : Cluster) (rows : List Row) → Run (step s) s.end u ks rows v → Schedule (step s) (IsClearOf s division between) u ks rows v) (bounds : ℕ → ℕ) (w : Cluster) (keys : List Key) (rows : List Row)
      (schedule : Schedule (step s) (IsClearOf s division between) (opening s) keys rows w) (whole : IsWholeCluster s w)
      (below : AreHorizons s.end division (IsPeopled s division) between bounds w) (window : Window State EventKind Row) (runs : IsWindowOfItsPart (step s) division bounds w window)
      (from : ℕ) (early : AllByRecursion (λ (k : Key). division k.to ≡ window.part → k.at < from) keys)
      (left : (q : Key) → IsPending w q → division q.to ≡ window.part → from ≤ q.at) where
    abbrev owns : ℕ → Bool
    owns = is_in division window.part

    abbrev part_there : Cluster
    part_there = part_of owns w

    abbrev bound : ℕ
    bound = bounds window.part

    abbrev windows : List (Window State EventKind Row)
    windows = window ∷ []

    are : AreWindowsOfDifferentParts (step s) division bounds w windows
    are = record { windows = (runs, tt); different = (tt, tt) }

    -- it alone leads on
    there : (v : Cluster) × Schedule (step s) (IsClearOf s division between) w (all_keys windows) (all_rows windows) v × StandsAfter division w windows v × IsSoundCluster s v
    there = clear_windows s division between bounds w windows sound lies whole.sound below are

    pends_from : IsFrom (link_delay s) (step s) (keeps_delays s sound) owns bound from part_there
    pends_from q here = let found = pending_in s w whole owns q here in (found.0, left q found.2 (eqb-true (division q.to) window.part found.0))

    window_within : AllByRecursion (λ (row : Row). is_within division window.part from bound row ≡ true) (all_rows windows)
    window_within =
        all_weaker (λ (row : Row). (owns row.member ≡ true) × (from ≤ row.at) × (row.at < bound)) (λ row. is_within division window.part from bound row ≡ true)
        (λ row h. within_from division window.part from bound row h.0 h.1 h.2) (all_rows windows)
        (schedule_keyed (step s) (steps_later s sound) place_of (steps_counted s sound) (λ k. (owns k.to ≡ true) × (from ≤ k.at) × (k.at < bound)) (IsClearOf s division between)
        (all_keys windows) w there.0 (all_rows windows)
        (all_append (λ (k : Key). (owns k.to ≡ true) × (from ≤ k.at) × (k.at < bound)) window.keys []
        (own_keys s sound owns bound from window.keys part_there window.after window.out window.rows pends_from runs.run) tt)
        there.1)

    below_there : AreHorizons s.end division (IsPeopled s division) between bounds there.0
    below_there =
        (with_fact (step s) (IsClearOf s division between) (λ u. IsSoundCluster s u × AreHorizons s.end division (IsPeopled s division) between bounds u)
        (λ u k c fact clear here. (
          sound_stays s sound u k c fact.0 here clear.in_time,
          horizons_stay s division between sound lies bounds u (settled u k (outcome (step s) u k c)) k (rows_of (outcome (step s) u k c)) fact.0 fact.1
              (record { content = c; here = here; passes = clear; world = refl; made = refl }),
        ))
        (all_keys windows) w there.0 (all_rows windows) (whole.sound, below) there.1).1.1

    late_there : (q : Key) → IsPending there.0 q → division q.to ≡ window.part → bound ≤ q.at
    late_there q here same =
        subst (λ n. bounds n ≤ q.at) same (clear_none_left s division between sound lies bounds w whole.sound below windows there.0 are there.2 q here (inl (sym same)))

    abbrev rest_of : Cluster → List Row
    rest_of u = trace (step s) (steps_later s sound) s.end u

    abbrev keys_of : Cluster → List Key
    keys_of u = handled (step s) (steps_later s sound) s.end u

    none_left_within : AllByRecursion (λ (row : Row). is_within division window.part from bound row ≡ false) (rest_of there.0)
    none_left_within =
        let is = run-exists (step s) (steps_later s sound) s.end there.0 in
        all_weaker (λ (row : Row). division row.member ≡ window.part → bound ≤ row.at) (λ row. is_within division window.part from bound row ≡ false)
        (λ row past. false_from_ne_true (is_within division window.part from bound row) (λ h.
        let inside = within_parts division window.part from bound row h in
        let high = inside.2 in
        let low = past (eqb-true (division row.member) window.part inside.0) in
        omega arith))
        (rest_of there.0) (late_rows bounds window.part (keys_of there.0) there.0 is.last (rest_of there.0) there.3 below_there late_there (run_leads (keys_of there.0) there.0 is.last (rest_of there.0) is.run))

    kept_in_all : filter (is_within division window.part from bound) (rows ++ (all_rows windows ++ rest_of there.0)) ≡ window.rows
    kept_in_all =
        filter-append (is_within division window.part from bound) rows (all_rows windows ++ rest_of there.0)
        ∙ ap (λ l. filter (is_within division window.part from bound) rows ++ l) (filter-append (is_within division window.part from bound) (all_rows windows) (rest_of there.0))
        ∙ (λ i. keeps_none (is_within division window.part from bound) rows (none_within w keys rows schedule window.part from early bound) i
        ++ (keeps_all (is_within division window.part from bound) (all_rows windows) window_within i
        ++ keeps_none (is_within division window.part from bound) (rest_of there.0) none_left_within i))
        ∙ append-nil (window.rows ++ []) ∙ append-nil window.rows

    all_there : (run : List Row) → IsRunOf s run → IsPermutation (rows ++ (all_rows windows ++ rest_of there.0)) run
    all_there run is =
        let begun = run-exists (step s) (steps_later s sound) s.end w in
        IsPermutation-trans (rows ++ (all_rows windows ++ rest_of there.0)) (rows ++ rest_of w) run
        (IsPermutation-append_right rows (all_rows windows ++ rest_of there.0) (rest_of w)
        (clear_rows s division between sound lies w there.0 (all_keys windows) (keys_of w) (keys_of there.0) (all_rows windows) (rest_of w) (rest_of there.0) whole.sound there.1 begun
        (run-exists (step s) (steps_later s sound) s.end there.0)))
        (clear_rows s division between sound lies (opening s) w keys is.0 (keys_of w) rows run (rest_of w) (sound_opening s sound) schedule is.1 begun)

    -- its rows are the run's of its members from the one moment up to the bound
    window_rows : (run : List Row) → IsRunOf s run → window.rows ≡ filter (is_within division window.part from bound) run
    window_rows run is =
        let rises : IsRising (IsAtMost by_places) window.rows =
        rising_mapped place_of IsPlaceBefore (IsAtMost by_places) (λ a b before. less_at_most a b before) window.rows
        (part_rows_rise s sound owns bound window.keys part_there window.after window.out window.rows runs.run) in
        sym kept_in_all
        ∙ kept_same (is_within division window.part from bound) by_places places_order.total run (rows ++ (all_rows windows ++ rest_of there.0))
        (rows_by_place s sound (IsLess by_places) places_order.agrees run is) (all_there run is) (subst (IsRising (IsAtMost by_places)) (sym kept_in_all) rises)

-- ---- rounds

module _ (plan : Plan) (is : IsPlan plan) (part round from : ℕ) (w : Cluster) (first : Option ℕ) (begins : IsRound plan round w first) (has : HasRunTo plan round part from) where
  led_to : IsLed plan is.ways.between round w
  led_to = led plan is round w begins.world

  early : AllByRecursion (λ (k : Key). plan.division k.to ≡ part → k.at < from) led_to.keys
  early =
      all_weaker (λ (k : Key). (t : ℕ) → HasRunTo plan round (plan.division k.to) t → k.at < t) (λ k. plan.division k.to ≡ part → k.at < from)
      (λ k before same. before from (subst (λ n. HasRunTo plan round n from) (sym same) has)) led_to.keys led_to.early

  ordered : from ≤ bound_of plan first part
  ordered = run_to_grows plan is round part from (bound_of plan first part) has (w, first, begins, refl)

  none_left : IsUpTo first (plan.setup.end + 1) → IsLot plan.setup plan.division part from (plan.setup.end + 1) []
  none_left past = record {
    ordered = let low = ordered in let high = bound_in_time plan first part in omega arith;
    in_time = omega arith;
    run = (some_run plan.setup is.sound).0;
    is_run = (some_run plan.setup is.sound).1;
    same =
        rows_over plan.setup is.sound plan.division is.ways.between is.ways.lies w led_to.keys led_to.rows led_to.schedule part from early
        (λ q here. let late = (begins.pends (plan.setup.end + 1)).1 past q here in omega arith)
        (plan.setup.end + 1) (some_run plan.setup is.sound).0 (some_run plan.setup is.sound).1;
  }

module _ (plan : Plan) (is : IsPlan plan) (round from : ℕ) (window : Window State EventKind Row) (mine : IsWindowOfRound plan round window) (has : HasRunTo plan round window.part from) where
  led_there : IsLed plan is.ways.between round mine.world
  led_there = led_to plan is window.part round from mine.world mine.first mine.in_round has

  window_lot : IsLot plan.setup plan.division window.part from (bound_of plan mine.first window.part) window.rows
  unfolding led_there
  window_lot = record {
    ordered = ordered plan is window.part round from mine.world mine.first mine.in_round has;
    in_time = bound_in_time plan mine.first window.part;
    run = (some_run plan.setup is.sound).0;
    is_run = (some_run plan.setup is.sound).1;
    same =
        window_rows plan.setup is.sound plan.division is.ways.between is.ways.lies
        (run_leads plan is)
        (bound_of plan mine.first) mine.world led_there.keys led_there.rows led_there.schedule led_there.whole
        (round_horizons plan round mine.world mine.first is.ways.between is.ways.shortest mine.in_round) window mine.runs from
        (early plan is window.part round from mine.world mine.first mine.in_round has)
        (λ q here same. led_there.left q here from (subst (λ n. HasRunTo plan round n from) (sym same) has))
        (some_run plan.setup is.sound).0 (some_run plan.setup is.sound).1;
  }

pub lot_of_window : (plan : Plan) (round from to : ℕ) (window : Window State EventKind Row) → IsPlan plan → window.part < plan.parts → IsWindowOfRound plan round window
    → HasRunTo plan round window.part from → HasRunTo plan (round + 1) window.part to → IsLot plan.setup plan.division window.part from to window.rows
lot_of_window plan round from to window is low mine begun goes =
    let more : round + 1 ≡ suc round = omega arith in
    let next : HasRunTo plan (suc round) window.part to = subst (λ n. HasRunTo plan n window.part to) more goes in
    subst (λ t. IsLot plan.setup plan.division window.part from t window.rows) (sym (run_to_bound plan is round window.part to mine.world mine.first mine.in_round next)) (window_lot plan is round from window mine begun)

pub lot_rest : (plan : Plan) (part round from : ℕ) (first : Option ℕ) (p : Cluster) → IsPlan plan → part < plan.parts → BeginsRound plan part round first p → IsUpTo first (plan.setup.end + 1)
    → HasRunTo plan round part from → IsLot plan.setup plan.division part from (plan.setup.end + 1) []
lot_rest plan part round from first p is low begins past begun = none_left plan is part round from begins.world first begins.in_round begun past

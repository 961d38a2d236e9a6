-- From its own window and what it is sent, a part has all that the next round begins with.
use Rattle.std.proofs.Common.{◌≡◌, ◌≢◌, ◌⊎◌, ℕ, ◌+◌, ◌<◌, ◌≤◌, suc, Bool, true, List, [], ◌∷◌, ◌++◌, map, Option, ap, inl, inr, ◌∙◌, sym, subst, refl, arith}
use Rattle.std.specs.List.{AllByRecursion}
use Rattle.std.specs.FinMap.{get}
use Rattle.std.proofs.lemmas.Bool.{eqb-true}
use Rattle.std.proofs.lemmas.List.Elements.{filter-append, recursion_from_All}
use Rattle.base.specs.declared.key.Key.{Key}
use Rattle.base.specs.World.{IsPending}
use Rattle.base.specs.Rising.{IsRising, AreNew}
use Rattle.base.proofs.Rising.{all_weaker}
use Rattle.scenario.specs.Setup.{member_count}
use Rattle.trace.specs.declared.row.Row.{Row}
use Rattle.worker_queue.specs.Queue.{NoneIsBelow}
use Rattle.member.specs.declared.event_kind.EventKind.{EventKind}
use Rattle.member.specs.declared.event.Event.{Event}
use Rattle.member.specs.State.{State}
use Rattle.member.specs.StateOf.{pair_of}
use Rattle.member.specs.Opening.{opening}
use Rattle.member.specs.Step.{step}
use Rattle.member_laws.specs.Runs.{Cluster, CounterOverflows}
use Rattle.windows.specs.Parts.{Window, IsWindowOfItsPart, AreWindowsOfDifferentParts, IncludesPart, PartRun, PartWindow, StandsAfter, part_of, for_own, with_arrivals, is_in, all_out}
use Rattle.windows.specs.Window.{is_own, IsConsistentPart, RunsWindow}
use Rattle.windows.specs.Wears.{OverflowsInWindow}
use Rattle.windows.specs.Cluster.{IsWholeCluster}
use Rattle.windows.proofs.Division.{own_of_run}
use Rattle.windows.proofs.Cuts.{all_kept}
use Rattle.windows.proofs.Horizons.{clear_met, clear_met_in_part}
use Rattle.windows.proofs.Members.{receiver_low, sent_new, sound_opening}
use Rattle.windows.proofs.PartRuns.{own_run}
use Rattle.windows.proofs.Wholes.{part_consistent, own_here, window_by_number}
use Rattle.lookahead_windows.specs.Before.{IsWorldBefore}
use Rattle.lookahead_windows.specs.Plan.{Plan, IsPlan, bound_of}
use Rattle.lookahead_windows.specs.Starts.{IsUpTo, IsFirstMoment, AreWindowsOfAll, IsRound}
use Rattle.lookahead_windows.specs.Messages.{BeginsRound, IsWindowOfRound, IsLeastAfter, IsMessage, IsOneOf, Message, sender_of, all_events, AreOfAllOthers, IsLeastOfAll}
use Rattle.lookahead_windows.proofs.AllWindows.{windows_in, numbers_in, windows_hold, differ_in, included, units, some_window}
use Rattle.lookahead_windows.proofs.Pending.{late_windows, late_world}
use Rattle.lookahead_windows.proofs.Reached.{led}
use Rattle.lookahead_windows.proofs.Turns.{some_at, one_at, whole_at, some_after, whole_after, first_horizons, round_opening}

-- ---- windows of different parts in one round

module _ (plan : Plan) (is : IsPlan plan) (round : ℕ) (world : Cluster) (first : Option ℕ) (in_round : IsRound plan round world first) where
  abbrev pub IsHere : Window State EventKind Row → Type 0
  IsHere x = IsWindowOfItsPart (step plan.setup) plan.division (bound_of plan first) world x

  -- the window of a round is one of its world
  pub is_here : (x : Window State EventKind Row) → IsWindowOfRound plan round x → IsHere x
  is_here x of =
      let same = one_at plan is round of.world world of.first first of.in_round in_round in
      subst (λ f. IsWindowOfItsPart (step plan.setup) plan.division (bound_of plan f) world x) same.1
      (subst (λ (u : Cluster). IsWindowOfItsPart (step plan.setup) plan.division (bound_of plan of.first) u x) same.0 of.runs)

-- the members of a part of the plan are the scenario's
members_low : (plan : Plan) (is : IsPlan plan) (part : ℕ) → part < plan.parts → (m : ℕ) → plan.division m ≡ part → m < member_count plan.setup
members_low plan is part low m same = is.named m (subst (λ n. n < plan.parts) (sym same) low)

-- ---- messages

module _ (plan : Plan) (is : IsPlan plan) (round : ℕ) (window : Window State EventKind Row) (messages : List Message) (mine : IsWindowOfRound plan round window) where
  abbrev owns : ℕ → Bool
  owns = is_in plan.division window.part

  abbrev bounds : ℕ → ℕ
  bounds = bound_of plan mine.first

  abbrev Told : Message → Type 0
  Told m = IsMessage plan m.from window.part round m.events m.least

  abbrev told_window : (m : Message) → Told m → Window State EventKind Row
  told_window m told = told.window

  named : (m : Message) (told : Told m) → told.window.part ≡ sender_of m
  named m told = told.sender

  abbrev whole : IsWholeCluster plan.setup mine.world
  whole = whole_at plan is round mine.world mine.in_round.world

  -- what went out for the part is what it is sent
  their_events : (ms : List Message) (all : AllByRecursion Told ms) → for_own owns (all_out (windows_in sender_of Told told_window named ms all)) ≡ all_events ms
  their_events [] all = refl
  their_events (m ∷ ms) all =
      filter-append (λ (e : Key × EventKind). owns e.0.to) all.0.window.out (all_out (windows_in sender_of Told told_window named ms all.1))
      ∙ ap (λ l. l ++ for_own owns (all_out (windows_in sender_of Told told_window named ms all.1))) (sym all.0.told)
      ∙ ap (λ l. m.events ++ l) (their_events ms all.1)

  -- ---- from some of the others

  module _ (each : AllByRecursion Told messages) where
    abbrev their : List (Window State EventKind Row)
    their = windows_in sender_of Told told_window named messages each

    abbrev windows : List (Window State EventKind Row)
    windows = window ∷ their

    events_here : for_own owns (all_out windows) ≡ all_events messages
    events_here =
        filter-append (λ (e : Key × EventKind). owns e.0.to) window.out (all_out their)
        ∙ ap (λ l. l ++ for_own owns (all_out their))
        (own_of_run (step plan.setup) owns (bounds window.part) window.keys (part_of owns mine.world) window.after window.out window.rows mine.runs.run)
        ∙ their_events messages each

    -- what they send is for members of the part
    own_events : window.part < plan.parts → AllByRecursion (λ (e : Key × EventKind). is_own window.after e.0.to ≡ true) (all_events messages)
    own_events low =
        let same = own_here plan.setup mine.world whole owns (λ m here. members_low plan is window.part low m (eqb-true (plan.division m) window.part here)) in
        subst (AllByRecursion (λ (e : Key × EventKind). is_own window.after e.0.to ≡ true)) events_here
        (all_weaker _ (λ (e : Key × EventKind). is_own window.after e.0.to ≡ true)
        (λ e passes.
        own_run (step plan.setup) owns (bounds window.part) window.keys (part_of owns mine.world) window.after window.out window.rows mine.runs.run e.0.to
        ∙ ap (λ (f : ℕ → Bool). f e.0.to) same ∙ passes.0)
        (for_own owns (all_out windows)) (all_kept (λ (e : Key × EventKind). owns e.0.to) (λ e. Unit {0}) (all_out windows) (units (all_out windows))))

    module _ (others : AllByRecursion (λ (m : Message). window.part ≢ m.from) messages) (different : IsRising (λ (m n : Message). m.from ≢ n.from) messages) where
      are : AreWindowsOfDifferentParts (step plan.setup) plan.division bounds mine.world windows
      are = record {
        windows = (
          mine.runs,
          windows_hold sender_of Told told_window named (IsHere plan is round mine.world mine.first mine.in_round)
              (λ m told. is_here plan is round mine.world mine.first mine.in_round told.window told.runs) messages each,
        );
        different = (numbers_in sender_of Told told_window named (λ n. window.part ≢ n) messages each others, differ_in sender_of Told told_window named messages each different);
      }

      -- and new to the part
      new_events : AreNew window.after.pending (all_events messages)
      new_events =
          subst (AreNew window.after.pending) events_here
          (recursion_from_All (λ (x : Window State EventKind Row). AreNew x.after.pending (for_own (is_in plan.division x.part) (all_out windows))) windows
          (sent_new plan.setup plan.division bounds mine.world windows is.sound whole.numbered are)).0

  -- ---- the least moment

  leasts_upto : (t : ℕ) (ms : List Message) (all : AllByRecursion Told ms)
      → AllByRecursion (λ (x : Window State EventKind Row). NoneIsBelow x.after.pending t × AllByRecursion (λ (e : Key × EventKind). t ≤ e.0.at) x.out) (windows_in sender_of Told told_window named ms all)
      → AllByRecursion (λ (m : Message). IsUpTo m.least t) ms
  leasts_upto t [] all late = tt
  leasts_upto t (m ∷ ms) all late = ((all.0.after t).0 late.0, leasts_upto t ms all.1 late.1)

  upto_leasts : (t : ℕ) (ms : List Message) (all : AllByRecursion Told ms) → AllByRecursion (λ (m : Message). IsUpTo m.least t) ms
      → AllByRecursion (λ (x : Window State EventKind Row). NoneIsBelow x.after.pending t × AllByRecursion (λ (e : Key × EventKind). t ≤ e.0.at) x.out) (windows_in sender_of Told told_window named ms all)
  upto_leasts t [] all upto = tt
  upto_leasts t (m ∷ ms) all upto = ((all.0.after t).1 upto.0, upto_leasts t ms all.1 upto.1)

  -- ---- from all others

  module _ (low : window.part < plan.parts) (others : AreOfAllOthers plan window.part round messages) where
    abbrev all_windows : List (Window State EventKind Row)
    all_windows = windows others.each

    different : AllByRecursion (λ (m : Message). window.part ≢ m.from) messages
    different = all_weaker (λ (m : Message). (window.part ≢ m.from) × (m.from < plan.parts)) (λ (m : Message). window.part ≢ m.from) (λ m h. h.0) messages others.others

    all_are : AreWindowsOfAll plan mine.first mine.world all_windows
    all_are = record {
      windows = are others.each different others.different;
      named = (
        low,
        numbers_in sender_of Told told_window named (λ n. n < plan.parts) messages others.each
            (all_weaker (λ (m : Message). (window.part ≢ m.from) × (m.from < plan.parts)) (λ (m : Message). m.from < plan.parts) (λ m h. h.1) messages others.others),
      );
      all = λ part here. either part (others.complete part here);
    }
      where
        either : (part : ℕ) → (window.part ≡ part) ⊎ IsOneOf sender_of messages part → IncludesPart all_windows part
        either part (inl same) = inl same
        either part (inr more) = inr (included sender_of Told told_window named messages others.each part more)

    there : (v : Cluster) × StandsAfter plan.division mine.world all_windows v
    there = some_after plan is mine.world whole mine.first mine.in_round.pends all_windows all_are

    has : (q : Key) → IsPending there.0 q → IncludesPart all_windows (plan.division q.to)
    has q here =
        let after = whole_after plan is mine.world whole mine.first mine.in_round.pends all_windows all_are there.0 there.1 in
        all_are.all (plan.division q.to) (is.below q.to (receiver_low plan.setup there.0 q (get there.0.pending q) after.sound refl here))

    pends_first : (own next : Option ℕ) → IsLeastAfter window own → IsLeastOfAll own messages next → IsFirstMoment there.0 next
    pends_first own next after all t = (
      λ none.
          let late = late_windows plan.division mine.world there.0 all_windows there.1 t none in
          (all t).0 ((after t).0 late.0, leasts_upto t messages others.each late.1),
      λ upto.
          let each = (all t).1 upto in
          late_world plan.division mine.world there.0 all_windows there.1 t ((after t).1 each.0, upto_leasts t messages others.each each.1) has,
    )

    begins_next : (own next : Option ℕ) → IsLeastAfter window own → IsLeastOfAll own messages next → BeginsRound plan window.part (suc round) next (with_arrivals window.after (all_events messages))
    begins_next own next after all = record {
      world = there.0;
      in_round = record {
        world = (mine.world, mine.first, all_windows, mine.in_round.world, mine.in_round.pends, all_are, there.1);
        pends = pends_first own next after all;
      };
      cut = ap (with_arrivals window.after) (sym (events_here others.each)) ∙ sym there.1.parts.0;
    }

-- ---- one part

module _ (plan : Plan) (is : IsPlan plan) (part round : ℕ) (first : Option ℕ) (p : Cluster) (begins : BeginsRound plan part round first p) where
  abbrev own : ℕ → Bool
  own = is_in plan.division part

  abbrev begun : IsWholeCluster plan.setup begins.world
  begun = whole_at plan is round begins.world begins.in_round.world

  consistent : IsConsistentPart plan.setup p
  consistent = subst (IsConsistentPart plan.setup) (sym begins.cut) (part_consistent plan.setup begins.world begun own)

  module _ (low : part < plan.parts) where
    runs_here : (after : Cluster) (out : List Event) (rows : List Row) → RunsWindow plan.setup (bound_of plan first part) p out rows after
        → (keys : List Key) × IsWindowOfRound plan round (record { part = part; keys = keys; out = map pair_of out; rows = rows; after = after })
    runs_here after out rows runs =
        let there = subst (λ (x : Cluster). PartWindow (step plan.setup) (is_own x) (bound_of plan first part) x runs.0 (map pair_of out) rows after) begins.cut runs.1 in (
          runs.0,
          record {
            world = begins.world;
            first = first;
            in_round = begins.in_round;
            runs = window_by_number plan.setup plan.division part (bound_of plan first part) begins.world after runs.0 (map pair_of out) rows begun (members_low plan is part low) there;
          },
        )

    wears_here : OverflowsInWindow plan.setup (bound_of plan first part) p → CounterOverflows plan.setup
    wears_here wears =
        let bound = bound_of plan first part in
        let cut = subst (λ (x : Cluster). PartRun (step plan.setup) (is_own x) bound x wears.keys wears.out wears.rows wears.world) begins.cut wears.reached in
        let run = subst (λ f. PartRun (step plan.setup) f bound (part_of own begins.world) wears.keys wears.out wears.rows wears.world)
        (own_here plan.setup begins.world begun own (λ m here. members_low plan is part low m (eqb-true (plan.division m) part here))) cut in
        let there = clear_met_in_part plan.setup plan.division is.ways.between is.sound is.ways.lies (bound_of plan first) begins.world begun.sound
        (first_horizons plan begins.world first is.ways.between is.ways.shortest begins.in_round.pends) part wears.world wears.keys wears.out wears.rows wears.number wears.member run wears.there in
        let to = led plan is round begins.world begins.in_round.world in
        let met = clear_met plan.setup plan.division is.ways.between is.sound is.ways.lies (opening plan.setup) begins.world to.keys to.rows wears.number wears.member
        (sound_opening plan.setup is.sound) to.schedule there in
        record {
          keys = met.keys;
          rows = met.rows;
          world = met.world;
          reached = met.run;
          number = wears.number;
          member = wears.member;
          there = met.there;
          overflow = wears.overflow;
        }

-- ---- the laws

pub begins_opening : (plan : Plan) (part : ℕ) (w : Cluster) (first : Option ℕ) → IsWorldBefore plan.setup plan.since w → IsFirstMoment w first → BeginsRound plan part 0 first (part_of (is_in plan.division part) w)
begins_opening plan part w first world pends = record { world = w; in_round = round_opening plan w first world pends; cut = refl }

-- in each round each part has a window
pub some_of_round : (plan : Plan) (part round : ℕ) → IsPlan plan → (window : Window State EventKind Row) × (window.part ≡ part) × IsWindowOfRound plan round window
some_of_round plan part round is =
    let at = some_at plan is round in
    let has = some_window plan.setup is.sound (is_in plan.division part) (bound_of plan at.1 part) (part_of (is_in plan.division part) at.0) in
    (record { part = part; keys = has.0; out = has.1; rows = has.2; after = has.3 }, refl, record { world = at.0; first = at.1; in_round = at.2; runs = has.4 })

pub begins_consistent : (plan : Plan) (part round : ℕ) (first : Option ℕ) (p : Cluster) → IsPlan plan → BeginsRound plan part round first p → IsConsistentPart plan.setup p
begins_consistent plan part round first p is begins = consistent plan is part round first p begins

pub window_here : (plan : Plan) (part round : ℕ) (first : Option ℕ) (p after : Cluster) (out : List Event) (rows : List Row) → IsPlan plan → part < plan.parts → BeginsRound plan part round first p
    → RunsWindow plan.setup (bound_of plan first part) p out rows after
    → (keys : List Key) × IsWindowOfRound plan round (record { part = part; keys = keys; out = map pair_of out; rows = rows; after = after })
window_here plan part round first p after out rows is low begins runs = runs_here plan is part round first p begins low after out rows runs

pub overflow_here : (plan : Plan) (part round : ℕ) (first : Option ℕ) (p : Cluster) → IsPlan plan → part < plan.parts → BeginsRound plan part round first p
    → OverflowsInWindow plan.setup (bound_of plan first part) p → CounterOverflows plan.setup
overflow_here plan part round first p is low begins wears = wears_here plan is part round first p begins low wears

pub next_round : (plan : Plan) (round : ℕ) (window : Window State EventKind Row) (messages : List Message) (own first : Option ℕ) → IsPlan plan → window.part < plan.parts → IsWindowOfRound plan round window
    → AreOfAllOthers plan window.part round messages → IsLeastAfter window own → IsLeastOfAll own messages first
    → BeginsRound plan window.part (round + 1) first (with_arrivals window.after (all_events messages))
next_round plan round window messages own first is low mine others after all =
    let same : suc round ≡ round + 1 = omega arith in
    subst (λ n. BeginsRound plan window.part n first (with_arrivals window.after (all_events messages))) same (begins_next plan is round window messages mine low others own first after all)

pub new_so_far : (plan : Plan) (round : ℕ) (window : Window State EventKind Row) (messages : List Message) → IsPlan plan → IsWindowOfRound plan round window
    → AllByRecursion (λ (m : Message). IsMessage plan m.from window.part round m.events m.least) messages → AllByRecursion (λ (m : Message). window.part ≢ m.from) messages
    → IsRising (λ (m n : Message). m.from ≢ n.from) messages → AreNew window.after.pending (all_events messages)
new_so_far plan round window messages is mine each others different = new_events plan is round window messages mine each others different

pub own_so_far : (plan : Plan) (round : ℕ) (window : Window State EventKind Row) (messages : List Message) → IsPlan plan → window.part < plan.parts → IsWindowOfRound plan round window
    → AllByRecursion (λ (m : Message). IsMessage plan m.from window.part round m.events m.least) messages
    → AllByRecursion (λ (e : Key × EventKind). is_own window.after e.0.to ≡ true) (all_events messages)
own_so_far plan round window messages is low mine each = own_events plan is round window messages mine each low

-- The windows of the part that owns every member, one after the other up to the end, are the run.
use Rattle.std.proofs.Common.{◌≡◌, ℕ, ◌+◌, ◌<◌, ◌≤◌, ◌++◌, Bool, true, cond, min, List, [], ◌∷◌, map, Option, Some, None, ap, ◌∙◌, sym, subst, refl, arith}
use Rattle.std.specs.Option.{is_some, option_map}
use Rattle.std.specs.List.{AllByRecursion}
use Rattle.std.specs.FinMap.{get}
use Rattle.std.proofs.lemmas.List.Elements.{recursion_from_All}
use Rattle.base.specs.declared.key.Key.{Key}
use Rattle.base.specs.World.{Outcome, IsPending, IsOver, NextStep, Run, SequentialRun, settled, outcome, events_of}
use Rattle.base.specs.Run.{handled, trace, run-exists}
use Rattle.base.proofs.Rising.{all_weaker}
use Rattle.base.proofs.Joined.{run_joins}
use Rattle.scenario.specs.Setup.{Setup, IsSound, member_count}
use Rattle.trace.specs.declared.row.Row.{Row}
use Rattle.member.specs.declared.event_kind.EventKind.{EventKind}
use Rattle.member.specs.declared.event.Event.{Event}
use Rattle.member.specs.State.{State}
use Rattle.member.specs.Step.{step}
use Rattle.member.specs.Opening.{opening}
use Rattle.member.specs.StateOf.{pair_of}
use Rattle.member.specs.CounterOverflow.{IsOverflowed}
use Rattle.member.proofs.Fair.{steps_later}
use Rattle.member_laws.specs.Words.{IsAmongMembers}
use Rattle.member_laws.specs.Runs.{Cluster, IsSoundCluster, IsRunOf, CounterOverflows}
use Rattle.member_laws.proofs.Opened.{member_there}
use Rattle.member_laws.proofs.Reached.{step_among}
use Rattle.windows.specs.Parts.{PartStep, PartRun, PartWindow, kept_by, for_own}
use Rattle.windows.specs.Window.{is_own, RunsWindow}
use Rattle.windows.specs.Wears.{OverflowsInWindow}
use Rattle.windows.proofs.Members.{sound_stays, sound_opening}
use Rattle.windows.proofs.PartRuns.{members_settled}
use Rattle.turns.specs.Beginning.{BeginsRun}
use Rattle.turns.proofs.Lasting.{reached_sound, wears_nothing}

-- ---- a window of a part that owns every member

module _ (s : Setup) (sound : IsSound s) where
  module _ (owns : ℕ → Bool) (all : (m : ℕ) → m < member_count s → owns m ≡ true) (bound : ℕ) (within : bound ≤ s.end + 1) where
    -- all that is made in a sound cluster is for members
    made_low : (w : Cluster) (k : Key) (c : EventKind) (o : Option State) → get w.members k.to ≡ o → IsSoundCluster s w → get w.pending k ≡ Some c
        → AllByRecursion (λ e. e.0.to < member_count s) (events_of (option_map (step s k c) o))
    made_low w k c None none fact here = tt
    made_low w k c (Some t) there fact here =
        all_weaker _ (λ (e : Key × EventKind). e.0.to < member_count s) (λ e is. is.receiver) (step s k c t).events
        (recursion_from_All (λ (e : Key × EventKind). IsAmongMembers s e.0 e.1) (step s k c t).events (step_among s k c t sound (fact.events k c here) (fact.states k.to t there)))

    all_own : (es : List (Key × EventKind)) → AllByRecursion (λ e. e.0.to < member_count s) es → for_own owns es ≡ es
    all_own [] low = refl
    all_own (e ∷ es) low = ap (λ b. cond b (e ∷ for_own owns es) (for_own owns es)) (all e.0.to low.0) ∙ ap (λ l. e ∷ l) (all_own es low.1)

    kept_same : (o : Option (Outcome State EventKind Row)) → for_own owns (events_of o) ≡ events_of o → option_map (kept_by owns) o ≡ o
    kept_same None same = refl
    kept_same (Some o) same = ap (λ es. Some (record { state = o.state; events = es; rows = o.rows })) same

    -- so a step of the part is a next step of the cluster
    whole_step : (w v : Cluster) (k : Key) (out : List (Key × EventKind)) (rows : List Row) → PartStep (step s) owns bound w k out rows v → IsSoundCluster s w → NextStep (step s) w k v rows
    whole_step w v k out rows is fact = record {
      content = is.content;
      here = is.here;
      least = is.least;
      world =
          is.world
          ∙ ap (settled w k) (kept_same (outcome (step s) w k is.content) (all_own (events_of (outcome (step s) w k is.content)) (made_low w k is.content (get w.members k.to) refl fact is.here)));
      made = is.made;
    }

    whole_run : (ks : List Key) (w v : Cluster) (out : List (Key × EventKind)) (rows : List Row) → PartRun (step s) owns bound w ks out rows v → IsSoundCluster s w → Run (step s) s.end w ks rows v
    whole_run [] w v out rows run fact = (run.0, run.2)
    whole_run (k ∷ ks) w v out rows run fact =
        let is = run.5 in
        let low = is.early in
        let early : k.at ≤ s.end = omega (arith, low, within) in
        let next : NextStep (step s) w k run.0 run.3 = whole_step w run.0 k run.1 run.3 is fact in
        let mid = subst (IsSoundCluster s) (sym next.world) (sound_stays s sound w k next.content fact next.here early) in
        (run.0, run.3, run.4, early, next, whole_run ks run.0 v run.2 run.4 run.6 mid, run.8)

  pub whole_window : (keys : List Key) (out : List (Key × EventKind)) (rows : List Row) (after : Cluster) → PartWindow (step s) (is_own (opening s)) (s.end + 1) (opening s) keys out rows after
      → SequentialRun (step s) s.end (opening s) keys rows
  whole_window keys out rows after is = record {
    last = after;
    run = whole_run (is_own (opening s)) (λ m low. ap is_some (member_there s m low)) (s.end + 1) (omega arith) keys (opening s) after out rows is.run (sound_opening s sound);
    over = λ q here. let late = is.done q here in omega arith;
  }

-- ---- such windows one after the other

-- The run has come to this world with these rows, and up to the end nothing pends there before a moment.
pub record HasComeTo (s : Setup) (from : ℕ) (w : Cluster) (rows : List Row) : Type 0 where
  pub keys : List Key
  pub run : Run (step s) s.end (opening s) keys rows w
  pub none : (q : Key) → IsPending w q → min from (s.end + 1) ≤ q.at

still_own : (s : Setup) (ks : List Key) (w v : Cluster) (rows : List Row) → Run (step s) s.end w ks rows v → (m : ℕ) → is_own v m ≡ is_own w m
still_own s [] w v rows run m = ap (λ (u : Cluster). is_own u m) run.0
still_own s (k ∷ ks) w v rows run m =
    still_own s ks run.0 v run.2 run.5 m ∙ ap (λ (u : Cluster). is_own u m) run.4.world ∙ members_settled (step s) w k run.4.content (get w.members k.to) refl m

module _ (s : Setup) (sound : IsSound s) where
  -- as it begins
  pub at_opening : (w : Cluster) → w ≡ opening s → HasComeTo s 0 w []
  at_opening w opened = record {
    keys = [];
    run = (opened, refl);
    none = λ q here. omega arith;
  }

  module _ (from : ℕ) (w : Cluster) (rows : List Row) (so_far : HasComeTo s from w rows) where
    all_there : (m : ℕ) → m < member_count s → is_own w m ≡ true
    all_there m low = still_own s so_far.keys (opening s) w rows so_far.run m ∙ ap is_some (member_there s m low)

    goes_to : (bound : ℕ) → bound ≤ s.end + 1 → (keys : List Key) (out : List (Key × EventKind)) (made : List Row) (after : Cluster) → PartRun (step s) (is_own w) bound w keys out made after
        → Run (step s) s.end (opening s) (so_far.keys ++ keys) (rows ++ made) after
    goes_to bound within keys out made after run =
        run_joins (step s) s.end so_far.keys keys (opening s) w after rows made so_far.run
        (whole_run s sound (is_own w) all_there bound within keys w after out made run (reached_sound s sound so_far.keys rows w so_far.run))

    -- by one window more
    pub comes_on : (bound : ℕ) (out : List Event) (made : List Row) (after : Cluster) → RunsWindow s (min bound (s.end + 1)) w out made after → HasComeTo s bound after (rows ++ made)
    comes_on bound out made after is = record {
      keys = so_far.keys ++ is.0;
      run = goes_to (min bound (s.end + 1)) (omega arith) is.0 (map pair_of out) made after is.1.run;
      none = is.1.done;
    }

    -- a counter that overflows in it overflows in the run
    pub comes_overflow : (bound : ℕ) → OverflowsInWindow s (min bound (s.end + 1)) w → CounterOverflows s
    comes_overflow bound wears = record {
      keys = so_far.keys ++ wears.keys;
      rows = rows ++ wears.rows;
      world = wears.world;
      reached = goes_to (min bound (s.end + 1)) (omega arith) wears.keys wears.out wears.rows wears.world wears.reached;
      number = wears.number;
      member = wears.member;
      there = wears.there;
      overflow = wears.overflow;
    }

    -- the rows so far are the first of the run
    pub comes_first : BeginsRun s rows
    comes_first =
        let later = steps_later s sound in
        let left = run-exists (step s) later s.end w in
        let rest : List Row = trace (step s) later s.end w in
        let all = run_joins (step s) s.end so_far.keys (handled (step s) later s.end w) (opening s) w left.last rows rest so_far.run left.run in
        (rows ++ rest, (so_far.keys ++ handled (step s) later s.end w, record { last = left.last; run = all; over = left.over }), (rest, refl))

    -- past the end they are the run's, which wore no counter out
    is_over : s.end < from → IsOver s.end w
    is_over past q here = let late = so_far.none q here in omega (arith, late, past)

    pub comes_to_end : s.end < from → IsRunOf s rows
    comes_to_end past = (so_far.keys, record { last = w; run = so_far.run; over = is_over past })

    pub comes_no_overflow : s.end < from → ((m : ℕ) (t : State) → get w.members m ≡ Some t → ¬ (IsOverflowed t)) → ¬ (CounterOverflows s)
    comes_no_overflow past no_overflow = wears_nothing s sound so_far.keys rows w so_far.run (is_over past) no_overflow

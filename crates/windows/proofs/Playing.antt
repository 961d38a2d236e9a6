-- What choices of members come to from the beginning of a scenario, against its run.
use Rattle.std.proofs.Common.{◌≡◌, ◌++◌, ℕ, ◌<◌, true, List, Option, ap, ◌∙◌, sym, subst}
use Rattle.std.specs.Option.{is_some}
use Rattle.std.specs.List.Sorted.{IsPermutation, IsSorted}
use Rattle.std.specs.FinMap.{contains_key}
use Rattle.std.specs.declared.cmp.Ordering.{Ordering}
use Rattle.base.specs.declared.key.Key.{Key}
use Rattle.base.specs.World.{IsOver}
use Rattle.base.specs.Run.{handled, trace, run-exists, trace-run}
use Rattle.base.specs.Rising.{IsRising}
use Rattle.base.proofs.Rising.{rising_front}
use Rattle.scenario.specs.Setup.{Setup, IsSound, member_count}
use Rattle.trace.specs.declared.row.Row.{Row}
use Rattle.member.specs.State.{State}
use Rattle.member.specs.Opening.{opening}
use Rattle.member.specs.Places.{place_of}
use Rattle.member.specs.Step.{step}
use Rattle.member.specs.CounterOverflow.{IsOverflowed}
use Rattle.member.proofs.Fair.{steps_later, steps_counted}
use Rattle.member_laws.specs.Runs.{Cluster, IsSoundCluster, IsRunOf, CounterOverflows}
use Rattle.member_laws.proofs.Opened.{member_there, opening_numbered}
use Rattle.windows.specs.Safe.{IsSafe}
use Rattle.windows.specs.Schedule.{MeetsState, rows_by}
use Rattle.windows.specs.Cluster.{UsesUpTo, IsLeastDelay, SafeSchedule, IsRunFrom, IsRowOrder, whose}
use Rattle.windows.specs.Play.{Plays, IsBeginning}
use Rattle.windows.proofs.Members.{sound_opening, sound_after, rows_by_here, run_sorted, met_here, numbered_by}
use Rattle.windows.proofs.Numbers.{rising_kept}
use Rattle.windows.proofs.Released.{trace_rises}
use Rattle.windows.proofs.Sorting.{IsLess}
use Rattle.windows.proofs.Plays.{schedule_of}
use Rattle.windows.proofs.PlayRows.{kept_sorted}
use Rattle.windows.proofs.PlayWorlds.{still_has}

module _ (s : Setup) (d : Option ℕ) (choices : List ℕ) (keys : List Key) (made : List Row) (v : Cluster) (sound : IsSound s) (least : IsLeastDelay s d) (plays : Plays s d (opening s) choices keys made v) where
  steps : SafeSchedule s d (opening s) keys made v
  steps = schedule_of (step s) (IsSafe s.end d) choices (opening s) v keys made plays

  pub sound_there : IsSoundCluster s v
  sound_there = sound_after s d (opening s) v keys made sound least (sound_opening s sound) steps

  pub numbered_there : UsesUpTo v
  numbered_there = numbered_by s (IsSafe s.end d) (opening s) v keys made sound (opening_numbered s) steps

  -- every member of the scenario is there
  pub peopled_there : (m : ℕ) → m < member_count s → contains_key v.members m ≡ true
  peopled_there m there = still_has (step s) (IsSafe s.end d) keys (opening s) v made steps m ∙ ap is_some (member_there s m there)

  -- a counter past its limit there is one of the run
  pub overflow_there : (m : ℕ) (t : State) → MeetsState (step s) s.end v m t → IsOverflowed t → CounterOverflows s
  overflow_there m t met overflow =
      let is = met_here s d (opening s) v keys made m t sound least (sound_opening s sound) steps met in
      record { keys = is.keys; rows = is.rows; world = is.world; reached = is.run; number = m; member = t; there = is.there; overflow = overflow }

  module _ (cmp : Row → Row → Ordering) (order : IsRowOrder cmp) (sorted : List Row) (same : IsPermutation made sorted) (up : IsSorted cmp sorted) where
    -- where nothing is left the rows are the run's
    pub rows_to_the_end : IsOver s.end v → IsRunOf s sorted
    rows_to_the_end over =
        let whole = run-exists (step s) (steps_later s sound) s.end (opening s) in
        let all = run_sorted s d (opening s) v keys (handled (step s) (steps_later s sound) s.end (opening s)) made sorted (trace (step s) (steps_later s sound) s.end (opening s)) cmp sound least (sound_opening s sound) order
        steps over whole same up in
        (handled (step s) (steps_later s sound) s.end (opening s), subst (IsRunFrom s (opening s) (handled (step s) (steps_later s sound) s.end (opening s))) all whole)

    -- each member's rows are a beginning of its rows in the run
    pub rows_of_each : (run : List Row) → IsRunOf s run → (m : ℕ) → IsBeginning (rows_by whose m sorted) (rows_by whose m run)
    rows_of_each run is m =
        let later = steps_later s sound in
        let left = trace (step s) later s.end v in
        let both : rows_by whose m run ≡ rows_by whose m made ++ rows_by whose m left =
        rows_by_here s d (opening s) v keys is.0 (handled (step s) later s.end v) made run left sound least (sound_opening s sound) steps is.1 (run-exists (step s) later s.end v) m in
        let whole = (trace-run (step s) later s.end is.0 (opening s) is.1.last run is.1.run is.1.over).1 in
        let run_rises : IsRising (IsLess cmp) run =
        subst (IsRising (IsLess cmp)) whole (trace_rises (step s) later place_of (steps_counted s sound) s.end cmp order.total order.agrees (IsLess cmp) (λ a b less. less) (opening s)) in
        let rises : IsRising (IsLess cmp) (rows_by whose m made) =
        rising_front (IsLess cmp) (rows_by whose m made) (rows_by whose m left) (subst (IsRising (IsLess cmp)) both (rising_kept (IsLess cmp) _ run run_rises)) in
        (rows_by whose m left, both ∙ ap (λ rows. rows ++ rows_by whose m left) (sym (kept_sorted _ cmp order.total made sorted rises same up)))

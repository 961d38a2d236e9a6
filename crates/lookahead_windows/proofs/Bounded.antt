-- Schedules below a bound lead from a world before a moment to the world before the bound.
use Rattle.std.proofs.Common.{ℕ, ◌<◌, ◌≤◌, List, [], ◌∷◌, ◌++◌, Option, All, sym, subst, arith}
use Rattle.std.specs.List.Sorted.{IsPermutation}
use Rattle.std.specs.declared.cmp.Ordering.{Ordering}
use Rattle.std.proofs.lemmas.List.Elements.{recursion_from_All}
use Rattle.base.specs.declared.key.Key.{Key}
use Rattle.base.specs.Rising.{IsRising, IsPlaceBefore}
use Rattle.base.proofs.Rising.{all_append, all_weaker, rows_rise}
use Rattle.base.proofs.Joined.{run_joins}
use Rattle.scenario.specs.Setup.{Setup, IsSound}
use Rattle.trace.specs.declared.row.Row.{Row}
use Rattle.worker_queue.specs.Queue.{NoneIsBelow}
use Rattle.member.specs.Opening.{opening}
use Rattle.member.specs.Places.{place_of}
use Rattle.member.specs.Step.{step}
use Rattle.member.proofs.Fair.{steps_later, steps_counted}
use Rattle.member_laws.specs.Runs.{Cluster, IsSoundCluster}
use Rattle.windows.specs.Schedule.{TestedStep, Schedule, CatchesUp}
use Rattle.windows.specs.Safe.{IsSafe}
use Rattle.windows.specs.Cluster.{IsLeastDelay, LiesBetween, IsClearOf, IsRowOrder, SafeSchedule}
use Rattle.windows.proofs.Horizons.{clear_early}
use Rattle.windows.proofs.Members.{early_here, sound_stays}
use Rattle.windows.proofs.Released.{rising_mapped}
use Rattle.windows.proofs.Sorting.{IsLess}
use Rattle.lookahead_windows.specs.Before.{RunsBefore, IsWorldBefore, AreRowsBefore}
use Rattle.lookahead_windows.proofs.Until.{AreEarly, Until, schedule_until}
use Rattle.lookahead_windows.proofs.Worlds.{sound_before}

pub rising_last : {A : Type 0} (before : A → A → Type 0) (xs ys : List A) → IsRising before (xs ++ ys) → IsRising before ys
rising_last before [] ys up = up
rising_last before (x ∷ xs) ys up = rising_last before xs ys up.1

module _ (s : Setup) (sound : IsSound s) where
  -- a run goes on from a run before a moment
  joined : (from bound : ℕ) (keys : List Key) (rows : List Row) (w v : Cluster) → from ≤ bound → RunsBefore s from keys rows w → (until : Until (step s) s.end bound w v) → NoneIsBelow v.pending bound
      → RunsBefore s bound (keys ++ until.keys) (rows ++ until.rows) v
  joined from bound keys rows w v low before until none = record {
    run = run_joins (step s) s.end keys until.keys (opening s) w v rows until.rows before.run until.run;
    early = all_append (λ (k : Key). k.at < bound) keys until.keys (all_weaker (λ (k : Key). k.at < from) (λ k. k.at < bound) (λ k h. omega arith) keys before.early) until.early;
    none = none;
  }

  -- the rows of the run rise
  pub rows_less : (cmp : Row → Row → Ordering) → IsRowOrder cmp → (t : ℕ) (rows : List Row) → AreRowsBefore s t rows → IsRising (IsLess cmp) rows
  rows_less cmp order t rows is =
      rising_mapped place_of IsPlaceBefore (IsLess cmp) (λ a b before. order.agrees a b before) rows
      (rows_rise (step s) (steps_later s sound) s.end place_of (steps_counted s sound) is.0 (opening s) is.1 rows is.2.run)

  -- ---- schedules

  module _ (Test : Cluster → Key → Type 0) (in_time : (w : Cluster) (k : Key) → Test w k → k.at ≤ s.end)
      (catches : (w v : Cluster) (k : Key) (made : List Row) → IsSoundCluster s w → TestedStep (step s) Test w k v made → CatchesUp (step s) s.end w v k made) where
    stays : (w v : Cluster) (k : Key) (made : List Row) → IsSoundCluster s w → TestedStep (step s) Test w k v made → IsSoundCluster s v
    stays w v k made fact is = subst (IsSoundCluster s) (sym is.world) (sound_stays s sound w k is.content fact is.here (in_time w k is.passes))

    until_bound : (bound : ℕ) (w v : Cluster) (keys : List Key) (rows : List Row) → IsSoundCluster s w → Schedule (step s) Test w keys rows v → AreEarly bound keys → NoneIsBelow v.pending bound
        → (until : Until (step s) s.end bound w v) × IsPermutation rows until.rows
    until_bound bound w v keys rows fact is early none =
        schedule_until (step s) s.end (steps_later s sound) bound Test (IsSoundCluster s) in_time stays catches keys w v rows fact is early none

    tested_before : (from bound : ℕ) (w v : Cluster) (keys : List Key) (rows : List Row) → IsWorldBefore s from w → from ≤ bound → Schedule (step s) Test w keys rows v
        → All (λ (k : Key). k.at < bound) keys → NoneIsBelow v.pending bound → IsWorldBefore s bound v
    tested_before from bound w v keys rows before low is early none =
        let until = until_bound bound w v keys rows (sound_before s sound from w before) is (recursion_from_All (λ (k : Key). k.at < bound) keys early) none in
        (before.0 ++ until.0.keys, before.1 ++ until.0.rows, joined from bound before.0 before.1 w v low before.2 until.0 none)

  pub safe_before : (d : Option ℕ) → IsLeastDelay s d → (from bound : ℕ) (w v : Cluster) (keys : List Key) (rows : List Row) → IsWorldBefore s from w → from ≤ bound → SafeSchedule s d w keys rows v
      → All (λ (k : Key). k.at < bound) keys → NoneIsBelow v.pending bound → IsWorldBefore s bound v
  safe_before d least = tested_before (IsSafe s.end d) (λ w k is. is.in_time) (λ w v k made fact is. early_here s d w v k made sound least fact is)

  pub clear_before : (division : ℕ → ℕ) (lengths : ℕ → ℕ → ℕ) → LiesBetween s division lengths → (from bound : ℕ) (w v : Cluster) (keys : List Key) (rows : List Row) → IsWorldBefore s from w → from ≤ bound
      → Schedule (step s) (IsClearOf s division lengths) w keys rows v → All (λ (k : Key). k.at < bound) keys → NoneIsBelow v.pending bound → IsWorldBefore s bound v
  clear_before division lengths lies =
      tested_before (IsClearOf s division lengths) (λ w k is. is.in_time) (λ w v k made fact is. clear_early s division lengths w v k made sound lies fact is)

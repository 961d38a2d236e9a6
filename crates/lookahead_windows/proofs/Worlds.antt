-- Worlds before a moment: there is one, and one alone, and it is whole.
use Rattle.std.proofs.Common.{◌≡◌, ℕ, ◌+◌, ◌<◌, ◌≤◌, List, [], ◌∷◌, append-nil, ap, ◌∙◌, sym, refl, arith}
use Rattle.std.specs.FinMap.{get, contains_key}
use Rattle.base.specs.declared.key.Key.{Key}
use Rattle.base.specs.World.{Run}
use Rattle.base.specs.Run.{trace, trace-run}
use Rattle.base.proofs.Rising.{numbered_run}
use Rattle.scenario.specs.Setup.{Setup, IsSound}
use Rattle.trace.specs.declared.row.Row.{Row}
use Rattle.worker_queue.specs.Queue.{NoneIsBelow}
use Rattle.member.specs.State.{State}
use Rattle.member.specs.Opening.{opening}
use Rattle.member.specs.Step.{step}
use Rattle.member.proofs.Fair.{steps_later, steps_numbered}
use Rattle.member_laws.specs.Runs.{Cluster, IsSoundCluster, IsRunOf}
use Rattle.member_laws.proofs.Opened.{opening_numbered}
use Rattle.member_laws.proofs.Reached.{consistent_reached, pending_among}
use Rattle.windows.specs.Play.{IsBeginning}
use Rattle.windows.specs.Cluster.{IsWholeCluster}
use Rattle.windows.proofs.Early.{begins}
use Rattle.windows.proofs.PartRuns.{members_settled}
use Rattle.windows.proofs.WholeOpening.{opening_whole}
use Rattle.lookahead_windows.specs.Before.{RunsBefore, IsWorldBefore, AreRowsBefore}
use Rattle.lookahead_windows.proofs.Until.{run_in_time, one_until, until_exists}

same_members : (s : Setup) (ks : List Key) (w v : Cluster) (rows : List Row) → Run (step s) s.end w ks rows v → (m : ℕ) → contains_key v.members m ≡ contains_key w.members m
same_members s [] w v rows run m = ap (λ (u : Cluster). contains_key u.members m) run.0
same_members s (k ∷ ks) w v rows run m =
    same_members s ks run.0 v run.2 run.5 m ∙ ap (λ (u : Cluster). contains_key u.members m) run.4.world ∙ members_settled (step s) w k run.4.content (get w.members k.to) refl m

-- the opening is the world before each moment before which nothing pends
pub opening_before : (s : Setup) (t : ℕ) → NoneIsBelow (opening s).pending t → RunsBefore s t [] [] (opening s)
opening_before s t none = record { run = (refl, refl); early = tt; none = none }

-- past the end it is the whole run
pub over_before : (s : Setup) (t : ℕ) (keys : List Key) (rows : List Row) (w : Cluster) → RunsBefore s t keys rows w → NoneIsBelow w.pending (s.end + 1) → IsRunOf s rows
over_before s t keys rows w is none = (keys, record { last = w; run = is.run; over = λ q here. let h = none q here in omega arith })

pub ends_before : (s : Setup) (t : ℕ) (rows : List Row) → AreRowsBefore s t rows → s.end < t → IsRunOf s rows
ends_before s t rows is past = over_before s t is.0 rows is.1 is.2 (λ q here. let h = is.2.none q here in omega arith)

pub all_before_end : (s : Setup) (rows : List Row) → IsRunOf s rows → AreRowsBefore s (s.end + 1) rows
all_before_end s rows is = (
  is.0,
  is.1.last,
  record {
    run = is.1.run;
    early = run_in_time (step s) s.end is.0 (opening s) is.1.last rows is.1.run;
    none = λ q here. let h = is.1.over q here in omega arith;
  },
)

module _ (s : Setup) (sound : IsSound s) where
  pub some_world : (t : ℕ) → t ≤ s.end + 1 → (w : Cluster) × IsWorldBefore s t w
  some_world t low =
      let is = until_exists (step s) s.end (steps_later s sound) t (opening s) low in
      (is.0, (is.1.keys, is.1.rows, record { run = is.1.run; early = is.1.early; none = is.2 }))

  one_before : (t : ℕ) (ks ls : List Key) (rows all : List Row) (u v : Cluster) → RunsBefore s t ks rows u → RunsBefore s t ls all v → (u ≡ v) × (rows ≡ all)
  one_before t ks ls rows all u v a b =
      let same = one_until (step s) s.end (steps_later s sound) t ks ls (opening s) u v rows all a.run a.early a.none b.run b.early b.none in
      (same.0, sym (append-nil rows) ∙ same.1)

  pub one_world : (t : ℕ) (u v : Cluster) → IsWorldBefore s t u → IsWorldBefore s t v → u ≡ v
  one_world t u v a b = (one_before t a.0 b.0 a.1 b.1 u v a.2 b.2).0

  pub one_list : (t : ℕ) (first second : List Row) → AreRowsBefore s t first → AreRowsBefore s t second → first ≡ second
  one_list t first second a b = (one_before t a.0 b.0 first second a.1 b.1 a.2 b.2).1

  pub sound_before : (t : ℕ) (w : Cluster) → IsWorldBefore s t w → IsSoundCluster s w
  sound_before t w is = record {
    states = λ m u here. consistent_reached s sound w m u (is.0, is.1, is.2.run) here;
    events = λ k c here. pending_among s sound w k c (is.0, is.1, is.2.run) here;
  }

  pub whole_before : (t : ℕ) (w : Cluster) → IsWorldBefore s t w → IsWholeCluster s w
  whole_before t w is = record {
    sound = sound_before t w is;
    numbered = numbered_run (λ (u : State). u.next_number) (step s) (steps_numbered s sound) s.end is.0 (opening s) w is.1 (opening_numbered s) is.2.run;
    peopled = λ m. same_members s is.0 (opening s) w is.1 is.2.run m ∙ (opening_whole s sound).peopled m;
  }

  pub beginning_before : (t : ℕ) (rows run : List Row) → AreRowsBefore s t rows → IsRunOf s run → IsBeginning rows run
  beginning_before t rows run is whole =
      let later = steps_later s sound in
      let first = begins (step s) later s.end is.0 (opening s) is.1 rows is.2.run in
      let same = trace-run (step s) later s.end whole.0 (opening s) whole.1.last run whole.1.run whole.1.over in
      (trace (step s) later s.end is.1, sym same.1 ∙ first.1)

-- A schedule of clear steps leads to where the run ends, and keeps a cluster whole.
use Rattle.std.proofs.Common.{◌≡◌, ℕ, ◌<◌, ◌≤◌, List, [], ◌∷◌, ◌++◌, ap, ◌∙◌, sym, subst, refl, arith}
use Rattle.std.specs.Option.{is_some}
use Rattle.std.specs.FinMap.{get, contains_key}
use Rattle.base.specs.declared.key.Key.{Key}
use Rattle.base.specs.World.{Machine, World, IsOver, Run, NextStep}
use Rattle.base.specs.Run.{MakesLater, handled, trace, run-exists, one_step, run_more}
use Rattle.base.proofs.Joined.{run_joins}
use Rattle.scenario.specs.Setup.{Setup, IsSound}
use Rattle.trace.specs.declared.row.Row.{Row}
use Rattle.member.specs.Step.{step}
use Rattle.member.proofs.Fair.{steps_later}
use Rattle.member_laws.specs.Runs.{Cluster, IsSoundCluster}
use Rattle.windows.specs.Schedule.{TestedStep, Schedule}
use Rattle.windows.specs.Cluster.{LiesBetween, IsClearOf, IsWholeCluster}
use Rattle.windows.proofs.Members.{sound_stays, numbered_by}
use Rattle.windows.proofs.Horizons.{clear_early}
use Rattle.windows.proofs.PartRuns.{members_settled}

module _ {S C R : Type 0} (step : Machine S C R) (end : ℕ) where
  -- the run from this world ends there
  pub record EndsIn (w last : World S C) : Type 0 where
    pub keys : List Key
    pub rows : List R
    pub run : Run step end w keys rows last
    pub over : IsOver end last

  over_or_step : (w u v : World S C) (k : Key) (made : List R) → v ≡ w → IsOver end v → k.at ≤ end → NextStep step w k u made → ⊥
  over_or_step w u v k made same over in_time next = let past : end < k.at = subst (IsOver end) same over k (ap is_some next.here) in omega arith

  one_end_by : (later : MakesLater step) (ks ls : List Key) (w u v : World S C) (rows found : List R) → Run step end w ks rows u → IsOver end u → Run step end w ls found v → IsOver end v → u ≡ v
  one_end_by later [] [] w u v rows found a over b ends = a.0 ∙ sym b.0
  one_end_by later [] (l ∷ ls) w u v rows found a over b ends = absurd (over_or_step w b.0 u l b.1 a.0 over b.3 b.4)
  one_end_by later (k ∷ ks) [] w u v rows found a over b ends = absurd (over_or_step w a.0 v k a.1 b.0 ends a.3 a.4)
  one_end_by later (k ∷ ks) (l ∷ ls) w u v rows found a over b ends =
      let same = one_step step later end w a.0 b.0 k l a.1 b.1 a.4 b.4 in
      one_end_by later ks ls a.0 u v a.2 b.2 a.5 over (subst (λ m. Run step end m ls b.2 v) (sym same.1) b.5) ends

  -- it ends in one world alone
  pub one_end : (later : MakesLater step) (w u v : World S C) → EndsIn w u → EndsIn w v → u ≡ v
  one_end later w u v a b = one_end_by later a.keys b.keys w u v a.rows b.rows a.run a.over b.run b.over

  pub end_there : (later : MakesLater step) (w : World S C) → (last : World S C) × EndsIn w last
  end_there later w =
      let is = run-exists step later end w in
      (is.last, record { keys = handled step later end w; rows = trace step later end w; run = is.run; over = is.over })

  pub end_before : (ks : List Key) (w v last : World S C) (rows : List R) → Run step end w ks rows v → EndsIn v last → EndsIn w last
  end_before ks w v last rows run is = record {
    keys = ks ++ is.keys;
    rows = rows ++ is.rows;
    run = run_joins step end ks is.keys w v last rows is.rows run is.run;
    over = is.over;
  }

module _ (s : Setup) (sound : IsSound s) (division : ℕ → ℕ) (between : ℕ → ℕ → ℕ) (lies : LiesBetween s division between) where
  step_end : (w v last : Cluster) (k : Key) (made : List Row) → IsSoundCluster s w → TestedStep (step s) (IsClearOf s division between) w k v made → EndsIn (step s) s.end v last → EndsIn (step s) s.end w last
  step_end w v last k made fact is ends =
      let later = steps_later s sound in
      let early = clear_early s division between w v k made sound lies fact is in
      let there = end_there (step s) s.end later early.after in
      let same = one_end (step s) s.end later v there.0 last (end_before (step s) s.end early.before v early.after there.0 early.front early.alike there.1) ends in
      subst (EndsIn (step s) s.end w) same
      (end_before (step s) s.end (early.before ++ k ∷ []) w early.after there.0 (early.front ++ made)
      (run_more (step s) later s.end early.before w early.there early.after early.front made k early.until is.passes.in_time early.turn) there.1)

  -- where the run ends from the end of a schedule, it ends
  pub schedule_end : (ks : List Key) (w v last : Cluster) (rows : List Row) → IsSoundCluster s w → Schedule (step s) (IsClearOf s division between) w ks rows v → EndsIn (step s) s.end v last
      → EndsIn (step s) s.end w last
  schedule_end [] w v last rows fact is ends = subst (λ u. EndsIn (step s) s.end u last) is.0 ends
  schedule_end (k ∷ ks) w v last rows fact is ends =
      let mid = subst (IsSoundCluster s) (sym is.3.world) (sound_stays s sound w k is.3.content fact is.3.here is.3.passes.in_time) in
      step_end w is.0 last k is.1 fact is.3 (schedule_end ks is.0 v last is.2 mid is.4 ends)

-- ---- what a schedule keeps

module _ (s : Setup) (sound : IsSound s) (Test : Cluster → Key → Type 0) where
  same_members : (ks : List Key) (w v : Cluster) (rows : List Row) → Schedule (step s) Test w ks rows v → (m : ℕ) → contains_key v.members m ≡ contains_key w.members m
  same_members [] w v rows is m = ap (λ (u : Cluster). contains_key u.members m) is.0
  same_members (k ∷ ks) w v rows is m =
      same_members ks is.0 v is.2 is.4 m ∙ ap (λ (u : Cluster). contains_key u.members m) is.3.world ∙ members_settled (step s) w k is.3.content (get w.members k.to) refl m

  pub whole_after : (ks : List Key) (w v : Cluster) (rows : List Row) → Schedule (step s) Test w ks rows v → IsSoundCluster s v → IsWholeCluster s w → IsWholeCluster s v
  whole_after ks w v rows is there whole = record {
    sound = there;
    numbered = numbered_by s Test w v ks rows sound whole.numbered is;
    peopled = λ m. same_members ks w v rows is m ∙ whole.peopled m;
  }

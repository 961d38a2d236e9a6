-- The run of any machine up to a moment: it is one, and it leads to where a schedule leads that has handled the same events.
use Rattle.std.proofs.Common.{◌≡◌, ℕ, zero, suc, ◌+◌, ◌<◌, ◌≤◌, List, [], ◌∷◌, ◌++◌, append_assoc, ap, ◌∙◌, sym, subst, refl, arith}
use Rattle.std.specs.Option.{is_some}
use Rattle.std.specs.List.{AllByRecursion}
use Rattle.std.specs.List.Sorted.{IsPermutation}
use Rattle.std.proofs.lemmas.List.Sorted.{IsPermutation-refl, IsPermutation-trans, IsPermutation-append_comm, IsPermutation-append_left, IsPermutation-append_right}
use Rattle.base.specs.declared.key.Key.{Key}
use Rattle.base.specs.Order.{IsBefore, moments-from_before}
use Rattle.base.specs.World.{Machine, World, IsPending, NextStep, Run}
use Rattle.base.specs.Run.{MakesLater, handled, trace, run-exists, one_step, run_more}
use Rattle.base.proofs.Rising.{all_append, all_weaker, keys_rise}
use Rattle.base.proofs.Joined.{run_joins}
use Rattle.windows.specs.Schedule.{TestedStep, Schedule, CatchesUp}
use Rattle.windows.proofs.Deliveries.{all_before}

-- what comes later goes to the front
to_front : {A : Type 0} (front made back : List A) → IsPermutation (made ++ (front ++ back)) (front ++ (made ++ back))
to_front front made back =
    subst (λ l. IsPermutation l (front ++ (made ++ back))) (append_assoc made front back)
    (subst (IsPermutation (made ++ front ++ back)) (append_assoc front made back)
    (IsPermutation-append_left back (made ++ front) (front ++ made) (IsPermutation-append_comm made front)))

-- each of these events is before the moment
abbrev pub AreEarly : ℕ → List Key → Type 0
AreEarly t keys = AllByRecursion (λ (k : Key). k.at < t) keys

-- nothing pends before the moment
abbrev pub PendsNoEarlier : {S C : Type 0} → ℕ → World S C → Type 0
PendsNoEarlier t w = (q : Key) → IsPending w q → t ≤ q.at

module _ {S C R : Type 0} (step : Machine S C R) (end : ℕ) where
  -- all that it handles is no later than the end
  pub run_in_time : (ks : List Key) (w v : World S C) (rows : List R) → Run step end w ks rows v → AreEarly (end + 1) ks
  run_in_time [] w v rows run = tt
  run_in_time (k ∷ ks) w v rows run = (let h = run.3 in omega arith, run_in_time ks run.0 v run.2 run.5)

  -- a run up to one end is a run up to a later one
  pub run_longer : (u : ℕ) → u ≤ end → (ks : List Key) (w v : World S C) (rows : List R) → Run step u w ks rows v → Run step end w ks rows v
  run_longer u less [] w v rows run = run
  run_longer u less (k ∷ ks) w v rows run =
      (run.0, run.1, run.2, (let h = run.3 in omega arith), run.4, run_longer u less ks run.0 v run.2 run.5, run.6)

  -- the run from one world to another handles just these events, all before the moment
  pub record Until (t : ℕ) (w v : World S C) : Type 0 where
    pub keys : List Key
    pub rows : List R
    pub run : Run step end w keys rows v
    pub early : AreEarly t keys

  -- where nothing pends before the moment, nothing before it is handled
  none_handled : (t : ℕ) (w v u : World S C) (k : Key) (made : List R) → v ≡ w → PendsNoEarlier t v → k.at < t → NextStep step w k u made → ⊥
  none_handled t w v u k made same none early next = let past : t ≤ k.at = subst (PendsNoEarlier t) same none k (ap is_some next.here) in omega arith

  module _ (later : MakesLater step) (t : ℕ) where
    -- what is left of a run up to the moment, after a run that is a beginning of it
    pub record Left (w u v : World S C) (ks ls : List Key) (rows all : List R) : Type 0 where
      pub keys : List Key
      pub more : List R
      pub run : Run step end u keys more v
      pub early : AreEarly t keys
      pub all_keys : ls ≡ ks ++ keys
      pub all_rows : all ≡ rows ++ more

    -- a run that handles events before the moment is a beginning of the one up to it
    pub goes_on : (ks ls : List Key) (w u v : World S C) (rows all : List R) → Run step end w ks rows u → AreEarly t ks → Run step end w ls all v → AreEarly t ls → PendsNoEarlier t v
        → Left w u v ks ls rows all
    goes_on [] ls w u v rows all a first b early none = record {
      keys = ls;
      more = all;
      run = subst (λ x. Run step end x ls all v) (sym a.0) b;
      early = early;
      all_keys = refl;
      all_rows = ap (λ l. l ++ all) (sym a.1);
    }
    goes_on (k ∷ ks) [] w u v rows all a first b early none = absurd (none_handled t w v a.0 k a.1 b.0 none first.0 a.4)
    goes_on (k ∷ ks) (l ∷ ls) w u v rows all a first b early none =
        let same = one_step step later end w a.0 b.0 k l a.1 b.1 a.4 b.4 in
        let rest = goes_on ks ls a.0 u v a.2 b.2 a.5 first.1 (subst (λ m. Run step end m ls b.2 v) (sym same.1) b.5) early.1 none in
        let key : l ≡ k = sym same.0 in
        let made : b.1 ≡ a.1 = sym same.2 in
        record {
          keys = rest.keys;
          more = rest.more;
          run = rest.run;
          early = rest.early;
          all_keys = λ i. key i ∷ rest.all_keys i;
          all_rows = b.6 ∙ (λ i. made i ++ rest.all_rows i) ∙ sym (append_assoc a.1 a.2 rest.more) ∙ ap (λ l. l ++ rest.more) (sym a.6);
        }

    nothing_left : (ks : List Key) (u v : World S C) (rows : List R) → PendsNoEarlier t u → Run step end u ks rows v → AreEarly t ks → (v ≡ u) × (ks ≡ []) × (rows ≡ [])
    nothing_left [] u v rows none run early = (run.0, refl, run.1)
    nothing_left (k ∷ ks) u v rows none run early = absurd (none_handled t u u run.0 k run.1 refl none early.0 run.4)

    -- the run up to the moment is one
    pub one_until : (ks ls : List Key) (w u v : World S C) (rows all : List R) → Run step end w ks rows u → AreEarly t ks → PendsNoEarlier t u → Run step end w ls all v → AreEarly t ls → PendsNoEarlier t v
        → (u ≡ v) × (◌≡◌ {A = List R} (rows ++ []) all)
    one_until ks ls w u v rows all a first none b early past =
        let left = goes_on ks ls w u v rows all a first b early past in
        let nothing = nothing_left left.keys u v left.more none left.run left.early in
        (sym nothing.0, sym (left.all_rows ∙ ap (λ l. rows ++ l) nothing.2))

    -- what is handled before an event is no later than it
    before_next : (ks : List Key) (w u v : World S C) (rows made : List R) (k : Key) → Run step end w ks rows u → k.at ≤ end → NextStep step u k v made → k.at < t → AreEarly t ks
    before_next ks w u v rows made k run in_time next early =
        all_weaker (λ q. IsBefore q k) (λ q. q.at < t) (λ q before. let low = moments-from_before q k before in omega arith) ks
        (all_before IsBefore ks [] k (keys_rise step later end (ks ++ k ∷ []) w v (rows ++ made) (run_more step later end ks w u v rows made k run in_time next)))

    -- Where each step of a schedule may come early, and events before the moment alone are handled, and all of them, it leads to where
    -- the run up to the moment does.
    module _ (Test : World S C → Key → Type 0) (Fact : World S C → Type 0) (in_time : (w : World S C) (k : Key) → Test w k → k.at ≤ end)
        (stays : (w v : World S C) (k : Key) (made : List R) → Fact w → TestedStep step Test w k v made → Fact v)
        (catches : (w v : World S C) (k : Key) (made : List R) → Fact w → TestedStep step Test w k v made → CatchesUp step end w v k made) where
      pub schedule_until : (ks : List Key) (w v : World S C) (rows : List R) → Fact w → Schedule step Test w ks rows v → AreEarly t ks → PendsNoEarlier t v
          → (until : Until t w v) × IsPermutation rows until.rows
      schedule_until [] w v rows fact is early none = (record { keys = []; rows = []; run = (is.0, refl); early = tt }, subst (λ l. IsPermutation l []) (sym is.1) (IsPermutation-refl []))
      schedule_until (k ∷ ks) w v rows fact is early none =
          let caught = catches w is.0 k is.1 fact is.3 in
          let soon = in_time w k is.3.passes in
          let rest = schedule_until ks is.0 v is.2 (stays w is.0 k is.1 fact is.3) is.4 early.1 none in
          let before = before_next caught.before w caught.there caught.after caught.front is.1 k caught.until soon caught.turn early.0 in
          let left = goes_on caught.before rest.0.keys is.0 caught.after v caught.front rest.0.rows caught.alike before rest.0.run rest.0.early none in (
            record {
              keys = caught.before ++ k ∷ left.keys;
              rows = caught.front ++ (is.1 ++ left.more);
              run = run_joins step end caught.before (k ∷ left.keys) w caught.there v caught.front (is.1 ++ left.more) caught.until (caught.after, is.1, left.more, soon, caught.turn, left.run, refl);
              early = all_append (λ q. q.at < t) caught.before (k ∷ left.keys) before (early.0, left.early);
            },
            subst (λ l. IsPermutation l (caught.front ++ (is.1 ++ left.more))) (sym is.5)
                (IsPermutation-trans (is.1 ++ is.2) (is.1 ++ (caught.front ++ left.more)) (caught.front ++ (is.1 ++ left.more))
                (IsPermutation-append_right is.1 is.2 (caught.front ++ left.more) (subst (IsPermutation is.2) left.all_rows rest.1))
                (to_front caught.front is.1 left.more)),
          )

  -- up to the moment after the end there is such a run
  pub until_exists : MakesLater step → (t : ℕ) (w : World S C) → t ≤ end + 1 → (v : World S C) × Until t w v × PendsNoEarlier t v
  until_exists later zero w low = (w, record { keys = []; rows = []; run = (refl, refl); early = tt }, λ q here. omega arith)
  until_exists later (suc u) w low =
      let is = run-exists step later u w in (
        is.last,
        record {
          keys = handled step later u w;
          rows = trace step later u w;
          run = run_longer u (omega arith) (handled step later u w) w is.last (trace step later u w) is.run;
          early = all_weaker (λ (k : Key). k.at < u + 1) (λ k. k.at < suc u) (λ k h. omega arith) (handled step later u w) (in_time is.last is.run);
        },
        λ q here. let h = is.over q here in omega arith,
      )
    where
      early_keys : (ks : List Key) (v x : World S C) (rows : List R) → Run step u v ks rows x → AreEarly (u + 1) ks
      early_keys [] v x rows run = tt
      early_keys (k ∷ ks) v x rows run = (let h = run.3 in omega arith, early_keys ks run.0 x run.2 run.5)

      in_time : (x : World S C) → Run step u w (handled step later u w) (trace step later u w) x → AreEarly (u + 1) (handled step later u w)
      in_time x run = early_keys (handled step later u w) w x (trace step later u w) run

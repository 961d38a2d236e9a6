-- How far the run has come as a round begins: by a schedule of clear steps, which have handled in each part just what is before the
-- moment up to which the part has run.
use Rattle.std.proofs.Common.{◌≡◌, ℕ, zero, suc, ◌+◌, ◌<◌, ◌≤◌, Bool, true, List, [], ◌∷◌, ◌++◌, Option, append_assoc, ap, ◌∙◌, sym, subst, refl, arith}
use Rattle.std.specs.Option.{is_some}
use Rattle.std.specs.List.{AllByRecursion}
use Rattle.std.proofs.lemmas.Bool.{eqb-true}
use Rattle.base.specs.declared.key.Key.{Key}
use Rattle.base.specs.Order.{moments-from_not_before}
use Rattle.base.specs.World.{IsPending, NextStep, Run}
use Rattle.base.proofs.Rising.{all_append, all_weaker}
use Rattle.trace.specs.declared.row.Row.{Row}
use Rattle.member.specs.declared.event_kind.EventKind.{EventKind}
use Rattle.member.specs.State.{State}
use Rattle.member.specs.Opening.{opening}
use Rattle.member.specs.Step.{step}
use Rattle.member_laws.specs.Runs.{Cluster, IsSoundCluster}
use Rattle.windows.specs.Schedule.{Schedule}
use Rattle.windows.specs.Horizon.{length_of}
use Rattle.windows.specs.Parts.{Window, IsWindowOfItsPart, PartRun, part_of, is_in, all_keys, all_rows}
use Rattle.windows.specs.Cluster.{IsClearOf, IsWholeCluster, link_delay}
use Rattle.windows.proofs.Members.{keeps_delays}
use Rattle.windows.proofs.Outs.{IsFrom, from_after, handled_from}
use Rattle.windows.proofs.Wholes.{pending_in}
use Rattle.lookahead_windows.specs.Plan.{Plan, IsPlan, bound_of}
use Rattle.lookahead_windows.specs.Starts.{IsRoundWorld, IsRound, HasRunTo}
use Rattle.lookahead_windows.proofs.Turns.{bound_in_time, bound_upto, some_at, one_at, whole_at, leads_on, pends_past, bound_grows}

-- A schedule of clear steps leads from the opening to this world. In each part it has handled nothing from the moment on up to which the
-- part has run, and nothing before that moment pends.
pub record IsLed (plan : Plan) (between : ℕ → ℕ → ℕ) (round : ℕ) (w : Cluster) : Type 0 where
  pub keys : List Key
  pub rows : List Row
  pub schedule : Schedule (step plan.setup) (IsClearOf plan.setup plan.division between) (opening plan.setup) keys rows w
  pub early : AllByRecursion (λ (k : Key). (t : ℕ) → HasRunTo plan round (plan.division k.to) t → k.at < t) keys
  pub left : (q : Key) → IsPending w q → (t : ℕ) → HasRunTo plan round (plan.division q.to) t → t ≤ q.at
  pub sound : IsSoundCluster plan.setup w
  pub whole : IsWholeCluster plan.setup w

module _ (plan : Plan) (is : IsPlan plan) where
  abbrev Clear : Cluster → Key → Type 0
  Clear = IsClearOf plan.setup plan.division is.ways.between

  pub leads_join : (ks ls : List Key) (w u v : Cluster) (rows more : List Row) → Schedule (step plan.setup) Clear w ks rows u → Schedule (step plan.setup) Clear u ls more v
      → Schedule (step plan.setup) Clear w (ks ++ ls) (rows ++ more) v
  leads_join [] ls w u v rows more first rest =
      subst (λ l. Schedule (step plan.setup) Clear w ls (l ++ more) v) (sym first.1) (subst (λ (x : Cluster). Schedule (step plan.setup) Clear x ls more v) first.0 rest)
  leads_join (k ∷ ks) ls w u v rows more first rest = (
    first.0,
    first.1,
    first.2 ++ more,
    first.3,
    leads_join ks ls first.0 u v first.2 more first.4 rest,
    ap (λ l. l ++ more) first.5 ∙ append_assoc first.1 first.2 more,
  )

  -- ---- the run itself

  -- the least of all events is clear
  least_clear : (w v : Cluster) (k : Key) (made : List Row) → k.at ≤ plan.setup.end → NextStep (step plan.setup) w k v made → Clear w k
  least_clear w v k made in_time next = record {
    first = record { here = ap is_some next.here; least = λ q here same. next.least q here };
    in_time = in_time;
    clear = λ q here walk. further (plan.way_into (plan.division k.to)) (length_of is.ways.between walk) q.at (is.ways.some (plan.division k.to)) (is.ways.shortest (plan.division q.to) (plan.division k.to) walk)
        (moments-from_not_before q k (next.least q here));
  }
    where
      further : (way length at : ℕ) → 0 < way → way ≤ length → k.at ≤ at → k.at < at + length
      further way length at some short low = omega arith

  -- so a run is a schedule of clear steps
  pub run_leads : (ks : List Key) (w v : Cluster) (rows : List Row) → Run (step plan.setup) plan.setup.end w ks rows v → Schedule (step plan.setup) Clear w ks rows v
  run_leads [] w v rows run = run
  run_leads (k ∷ ks) w v rows run = (
    run.0,
    run.1,
    run.2,
    record { content = run.4.content; here = run.4.here; passes = least_clear w run.0 k run.1 run.3 run.4; world = run.4.world; made = run.4.made },
    run_leads ks run.0 v run.2 run.5,
    run.6,
  )

  -- ---- the keys of windows

  own_keys : (owns : ℕ → Bool) (bound : ℕ) (ks : List Key) (p v : Cluster) (out : List (Key × EventKind)) (rows : List Row) → IsFrom (link_delay plan.setup) (step plan.setup) (keeps_delays plan.setup is.sound) owns bound 0 p
      → PartRun (step plan.setup) owns bound p ks out rows v → AllByRecursion (λ (k : Key). (owns k.to ≡ true) × (k.at < bound)) ks
  own_keys owns bound [] p v out rows from run = tt
  own_keys owns bound (k ∷ ks) p v out rows from run = (
    ((handled_from (link_delay plan.setup) (step plan.setup) (keeps_delays plan.setup is.sound) owns bound 0 p run.0 k run.1 run.3 from run.5).0, run.5.early),
    own_keys owns bound ks run.0 v run.2 run.4 (from_after (link_delay plan.setup) (step plan.setup) (keeps_delays plan.setup is.sound) owns bound 0 p run.0 k run.1 run.3 from run.5) run.6,
  )

  -- each key is before its part's bound
  pub keys_below : (w : Cluster) (bounds : ℕ → ℕ) → IsWholeCluster plan.setup w → (ds : List (Window State EventKind Row)) → AllByRecursion (IsWindowOfItsPart (step plan.setup) plan.division bounds w) ds
      → AllByRecursion (λ (k : Key). k.at < bounds (plan.division k.to)) (all_keys ds)
  keys_below w bounds whole [] all = tt
  keys_below w bounds whole (d ∷ ds) all =
      all_append (λ (k : Key). k.at < bounds (plan.division k.to)) d.keys (all_keys ds)
      (all_weaker (λ (k : Key). (is_in plan.division d.part k.to ≡ true) × (k.at < bounds d.part)) (λ (k : Key). k.at < bounds (plan.division k.to))
      (λ k h. subst (λ n. k.at < bounds n) (sym (eqb-true (plan.division k.to) d.part h.0)) h.1) d.keys
      (own_keys (is_in plan.division d.part) (bounds d.part) d.keys (part_of (is_in plan.division d.part) w) d.after d.out d.rows
      (λ q here. ((pending_in plan.setup w whole (is_in plan.division d.part) q here).0, omega arith)) all.0.run))
      (keys_below w bounds whole ds all.1)

  -- ---- how far parts have run

  pub some_run_to : (round part : ℕ) → (t : ℕ) × HasRunTo plan round part t
  some_run_to zero part = (plan.since, refl)
  some_run_to (suc before) part = let from = some_at plan is before in (bound_of plan from.1 part, (from.0, from.1, from.2, refl))

  pub run_to_in_time : (round part t : ℕ) → HasRunTo plan round part t → t ≤ plan.setup.end + 1
  run_to_in_time zero part t to = subst (λ n. n ≤ plan.setup.end + 1) (sym to) is.in_time
  run_to_in_time (suc before) part t to = subst (λ n. n ≤ plan.setup.end + 1) (sym to.3) (bound_in_time plan to.1 part)

  -- it is the bound of the round before
  pub run_to_bound : (before part t : ℕ) (w : Cluster) (first : Option ℕ) → IsRound plan before w first → HasRunTo plan (suc before) part t → t ≡ bound_of plan first part
  run_to_bound before part t w first round to = to.3 ∙ ap (λ f. bound_of plan f part) (one_at plan is before to.0 w to.1 first to.2 round).1

  -- and grows
  pub run_to_grows : (round part t later : ℕ) → HasRunTo plan round part t → HasRunTo plan (suc round) part later → t ≤ later
  run_to_grows zero part t later to next =
      let low = bound_upto plan next.1 part plan.since is.in_time ((next.2.pends plan.since).0 next.2.world.2.none) in
      let from = to in
      let same = next.3 in
      omega (arith, low, from, same)
  run_to_grows (suc before) part t later to next =
      let world = next.2.world in
      let from : t ≡ bound_of plan world.1 part = run_to_bound before part t world.0 world.1 (record { world = world.3; pends = world.4 }) to in
      let more : bound_of plan world.1 part ≤ bound_of plan next.1 part = bound_grows plan is world.0 (whole_at plan is before world.0 world.3) world.1 world.4 world.2 world.5 next.0 world.6 next.1 next.2.pends part in
      let same = next.3 in
      omega (arith, from, more, same)

  leads : (round : ℕ) (w : Cluster) → IsRoundWorld plan round w → IsLed plan is.ways.between round w
  leads zero w world =
      let whole = whole_at plan is zero w world in
      record {
        keys = world.0;
        rows = world.1;
        schedule = run_leads world.0 (opening plan.setup) w world.1 world.2.run;
        early = all_weaker (λ (k : Key). k.at < plan.since) (λ (k : Key). (t : ℕ) → HasRunTo plan zero (plan.division k.to) t → k.at < t) (λ k less t to. subst (λ n. k.at < n) (sym to) less) world.0 world.2.early;
        left = λ q here t to. subst (λ n. n ≤ q.at) (sym to) (world.2.none q here);
        sound = whole.sound;
        whole = whole;
      }
  leads (suc before) w world =
      let whole = whole_at plan is (suc before) w world in
      let begun = whole_at plan is before world.0 world.3 in
      let rest = leads before world.0 world.3 in
      let round : IsRound plan before world.0 world.1 = record { world = world.3; pends = world.4 } in
      record {
        keys = rest.keys ++ all_keys world.2;
        rows = rest.rows ++ all_rows world.2;
        schedule = leads_join rest.keys (all_keys world.2) (opening plan.setup) world.0 w rest.rows (all_rows world.2) rest.schedule
            (leads_on plan is world.0 begun world.1 world.4 world.2 world.5 w world.6);
        early = all_append (λ (k : Key). (t : ℕ) → HasRunTo plan (suc before) (plan.division k.to) t → k.at < t) rest.keys (all_keys world.2)
            (all_weaker (λ (k : Key). (t : ℕ) → HasRunTo plan before (plan.division k.to) t → k.at < t) (λ (k : Key). (t : ℕ) → HasRunTo plan (suc before) (plan.division k.to) t → k.at < t)
            (λ k less t to.
            let from = some_run_to before (plan.division k.to) in
            let sooner = less from.0 from.1 in
            let grown = run_to_grows before (plan.division k.to) from.0 t from.1 to in
            omega (arith, sooner, grown)) rest.keys rest.early)
            (all_weaker (λ (k : Key). k.at < bound_of plan world.1 (plan.division k.to)) (λ (k : Key). (t : ℕ) → HasRunTo plan (suc before) (plan.division k.to) t → k.at < t)
            (λ k less t to. subst (λ n. k.at < n) (sym (run_to_bound before (plan.division k.to) t world.0 world.1 round to)) less) (all_keys world.2)
            (keys_below world.0 (bound_of plan world.1) begun world.2 world.5.windows.windows));
        left = λ q here t to.
            subst (λ n. n ≤ q.at) (sym (run_to_bound before (plan.division q.to) t world.0 world.1 round to))
            (pends_past plan is world.0 begun world.1 world.4 world.2 world.5 w world.6 q here);
        sound = whole.sound;
        whole = whole;
      }

pub led : (plan : Plan) (is : IsPlan plan) (round : ℕ) (w : Cluster) → IsRoundWorld plan round w → IsLed plan is.ways.between round w
led plan is round w world = leads plan is round w world

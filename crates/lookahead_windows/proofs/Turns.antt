-- Rounds: there is one of each number, and one alone, in a whole cluster. Their bounds are horizons, and grow from round to round.
use Rattle.std.proofs.Common.{◌≡◌, ℕ, zero, suc, ◌+◌, ◌<◌, ◌≤◌, min, List, [], ◌∷◌, Option, Some, None, ap, ◌∙◌, sym, subst, refl, arith}
use Rattle.std.specs.Option.{is_some}
use Rattle.std.specs.FinMap.{entries, get, contains_key, get-entries, find}
use Rattle.std.proofs.lemmas.Bool.{false≢true}
use Rattle.base.specs.declared.key.Key.{Key}
use Rattle.base.specs.Order.{key_cmp, moments-from_not_before}
use Rattle.base.specs.World.{IsPending}
use Rattle.base.specs.Run.{first-from_entries}
use Rattle.trace.specs.declared.row.Row.{Row}
use Rattle.member.specs.declared.event_kind.EventKind.{EventKind}
use Rattle.member.specs.State.{State}
use Rattle.member.specs.Step.{step}
use Rattle.member_laws.specs.Runs.{Cluster, IsSoundCluster}
use Rattle.windows.specs.Schedule.{Schedule}
use Rattle.windows.specs.Horizon.{Walk, AreHorizons, length_of}
use Rattle.windows.specs.Parts.{Window, StandsAfter, all_keys, all_rows}
use Rattle.windows.specs.Cluster.{IsPeopled, IsClearOf, IsWholeCluster}
use Rattle.windows.proofs.Division.{stands_once}
use Rattle.windows.proofs.Horizons.{clear_windows, clear_none_left}
use Rattle.windows.proofs.Members.{receiver_low, numbered_by}
use Rattle.windows.proofs.PartRuns.{members_settled}
use Rattle.lookahead_windows.specs.Before.{IsWorldBefore}
use Rattle.lookahead_windows.specs.Plan.{Plan, IsPlan, bound_of}
use Rattle.lookahead_windows.specs.Starts.{IsUpTo, IsFirstMoment, AreWindowsOfAll, IsRoundWorld, IsRound}
use Rattle.lookahead_windows.proofs.AllWindows.{windows_at, are_at, below_at, all_at}
use Rattle.lookahead_windows.proofs.OneWorld.{one_after}
use Rattle.lookahead_windows.proofs.Worlds.{some_world, one_world, whole_before}

-- ---- the first moment of a world

-- there is one
pub some_first : (w : Cluster) → (first : Option ℕ) × IsFirstMoment w first
some_first w = by_entries (entries w.pending) refl
  where
    by_entries : (es : List (Key × EventKind)) → entries w.pending ≡ es → (first : Option ℕ) × IsFirstMoment w first
    by_entries [] is = (None, λ t. (λ none. tt, λ _ q here. absurd (false≢true (sym (ap is_some (get-entries w.pending q ∙ ap (find key_cmp q) is)) ∙ here))))
    by_entries (e ∷ es) is =
        let first = first-from_entries w.pending e es is in
        (Some e.0.at, λ t. (λ none. none e.0 (ap is_some first.here), λ low q here. let least = moments-from_not_before q e.0 (first.least q here) in omega arith))

-- and one alone
pub one_first : (w : Cluster) (a b : Option ℕ) → IsFirstMoment w a → IsFirstMoment w b → a ≡ b
one_first w None None a_is b_is = refl
one_first w None (Some b) a_is b_is = let h = (b_is (b + 1)).0 ((a_is (b + 1)).1 tt) in absurd (omega arith)
one_first w (Some a) None a_is b_is = let h = (a_is (a + 1)).0 ((b_is (a + 1)).1 tt) in absurd (omega arith)
one_first w (Some a) (Some b) a_is b_is =
    let low = (b_is a).0 ((a_is a).1 (omega arith)) in
    let high = (a_is b).0 ((b_is b).1 (omega arith)) in
    let same : a ≡ b = omega arith in
    ap Some same

-- what pends is no earlier
pub from_first : (w : Cluster) (first : ℕ) → IsFirstMoment w (Some first) → (q : Key) → IsPending w q → first ≤ q.at
from_first w first is = (is first).1 (omega arith)

pub none_at_all : (w : Cluster) → IsFirstMoment w None → (q : Key) → ¬ (IsPending w q)
none_at_all w is q here = let h = (is (q.at + 1)).1 tt q here in absurd (omega arith)

-- ---- the bounds of a round

pub bound_in_time : (plan : Plan) (first : Option ℕ) (part : ℕ) → bound_of plan first part ≤ plan.setup.end + 1
bound_in_time plan None part = omega arith
bound_in_time plan (Some first) part = omega arith

-- it is past what nothing pends before
pub bound_upto : (plan : Plan) (first : Option ℕ) (part t : ℕ) → t ≤ plan.setup.end + 1 → IsUpTo first t → t ≤ bound_of plan first part
bound_upto plan None part t low upto = low
bound_upto plan (Some first) part t low upto = omega arith

-- and past the first moment that pends, where that is no later than the end
pub bound_past : (plan : Plan) (first part : ℕ) → IsPlan plan → first ≤ plan.setup.end → first < bound_of plan (Some first) part
bound_past plan first part is low = let some = is.ways.some part in omega arith

pub round_opening : (plan : Plan) (w : Cluster) (first : Option ℕ) → IsWorldBefore plan.setup plan.since w → IsFirstMoment w first → IsRound plan 0 w first
round_opening plan w first world pends = record { world = world; pends = pends }

-- No walk from what pends reaches a part before its bound.
pub first_horizons : (plan : Plan) (w : Cluster) (first : Option ℕ) (between : ℕ → ℕ → ℕ)
    → ((from to : ℕ) (walk : Walk (IsPeopled plan.setup plan.division) from to) → plan.way_into to ≤ length_of between walk)
    → IsFirstMoment w first → AreHorizons plan.setup.end plan.division (IsPeopled plan.setup plan.division) between (bound_of plan first) w
first_horizons plan w first between shortest pends = record { in_time = bound_in_time plan first; clear = λ part q here walk. clear first pends part q here walk }
  where
    clear : (first : Option ℕ) → IsFirstMoment w first → (part : ℕ) (q : Key) → IsPending w q → (walk : Walk (IsPeopled plan.setup plan.division) (plan.division q.to) part)
        → bound_of plan first part ≤ q.at + length_of between walk
    clear None pends part q here walk = absurd (none_at_all w pends q here)
    clear (Some first) pends part q here walk =
        further (plan.way_into part) (length_of between walk) (shortest (plan.division q.to) part walk) (from_first w first pends q here)
      where
        further : (way length : ℕ) → way ≤ length → first ≤ q.at → min (first + way) (plan.setup.end + 1) ≤ q.at + length
        further way length short low = omega arith

pub round_horizons : (plan : Plan) (round : ℕ) (w : Cluster) (first : Option ℕ) (between : ℕ → ℕ → ℕ)
    → ((from to : ℕ) (walk : Walk (IsPeopled plan.setup plan.division) from to) → plan.way_into to ≤ length_of between walk)
    → IsRound plan round w first → AreHorizons plan.setup.end plan.division (IsPeopled plan.setup plan.division) between (bound_of plan first) w
round_horizons plan round w first between shortest is = first_horizons plan w first between shortest is.pends

module _ (plan : Plan) (is : IsPlan plan) where
  abbrev Leads : Cluster → List Key → List Row → Cluster → Type 0
  Leads u keys rows v = Schedule (step plan.setup) (IsClearOf plan.setup plan.division is.ways.between) u keys rows v

  same_people : (ks : List Key) (w v : Cluster) (rows : List Row) → Leads w ks rows v → (m : ℕ) → contains_key v.members m ≡ contains_key w.members m
  same_people [] w v rows run m = ap (λ (u : Cluster). contains_key u.members m) run.0
  same_people (k ∷ ks) w v rows run m =
      same_people ks run.0 v run.2 run.4 m ∙ ap (λ (u : Cluster). contains_key u.members m) run.3.world
      ∙ members_settled (step plan.setup) w k run.3.content (get w.members k.to) refl m

  -- ---- from round to round

  module _ (u : Cluster) (whole : IsWholeCluster plan.setup u) (first : Option ℕ) (pends : IsFirstMoment u first) (windows : List (Window State EventKind Row)) (are : AreWindowsOfAll plan first u windows) where
    pub horizons_here : AreHorizons plan.setup.end plan.division (IsPeopled plan.setup plan.division) is.ways.between (bound_of plan first) u
    horizons_here = first_horizons plan u first is.ways.between is.ways.shortest pends

    -- there is a world to which the windows of all parts lead
    there : (v : Cluster) × Leads u (all_keys windows) (all_rows windows) v × StandsAfter plan.division u windows v × IsSoundCluster plan.setup v
    there = clear_windows plan.setup plan.division is.ways.between (bound_of plan first) u windows is.sound is.ways.lies whole.sound horizons_here are.windows

    pub some_after : (v : Cluster) × StandsAfter plan.division u windows v
    some_after = (there.0, there.2)

    module _ (v : Cluster) (stands : StandsAfter plan.division u windows v) where
      same_there : there.0 ≡ v
      same_there = stands_once plan.division u there.0 v windows there.2 stands

      pub leads_on : Leads u (all_keys windows) (all_rows windows) v
      leads_on = subst (Leads u (all_keys windows) (all_rows windows)) same_there there.1

      sound_there : IsSoundCluster plan.setup v
      sound_there = subst (IsSoundCluster plan.setup) same_there there.3

      pub whole_after : IsWholeCluster plan.setup v
      whole_after = record {
        sound = sound_there;
        numbered = numbered_by plan.setup (IsClearOf plan.setup plan.division is.ways.between) u v (all_keys windows) (all_rows windows) is.sound whole.numbered leads_on;
        peopled = λ m. same_people (all_keys windows) u v (all_rows windows) leads_on m ∙ whole.peopled m;
      }

      -- nothing before its part's bound pends
      pub pends_past : (q : Key) → IsPending v q → bound_of plan first (plan.division q.to) ≤ q.at
      pends_past q here =
          clear_none_left plan.setup plan.division is.ways.between is.sound is.ways.lies (bound_of plan first) u whole.sound horizons_here windows v are.windows stands q here
          (are.all (plan.division q.to) (is.below q.to (receiver_low plan.setup v q (get v.pending q) sound_there refl here)))

      -- so the bounds grow
      pub bound_grows : (next : Option ℕ) → IsFirstMoment v next → (part : ℕ) → bound_of plan first part ≤ bound_of plan next part
      bound_grows next after part = by_moments first next (λ q here. pends_past q here) after
        where
          by_moments : (first next : Option ℕ) → ((q : Key) → IsPending v q → bound_of plan first (plan.division q.to) ≤ q.at) → IsFirstMoment v next → bound_of plan first part ≤ bound_of plan next part
          by_moments first None past after = bound_in_time plan first part
          by_moments None (Some next) past after = let late = (after (plan.setup.end + 1)).0 past in omega arith
          by_moments (Some first) (Some next) past after =
              let late = (after (min first (plan.setup.end + 1))).0 (λ q here. let h = past q here in omega arith) in
              omega arith

  pub whole_at : (round : ℕ) (w : Cluster) → IsRoundWorld plan round w → IsWholeCluster plan.setup w
  whole_at zero w world = whole_before plan.setup is.sound plan.since w world
  whole_at (suc before) w world = whole_after world.0 (whole_at before world.0 world.3) world.1 world.4 world.2 world.5 w world.6

  pub one_world_at : (round : ℕ) (w v : Cluster) → IsRoundWorld plan round w → IsRoundWorld plan round v → w ≡ v
  one_world_at zero w v a b = one_world plan.setup is.sound plan.since w v a b
  one_world_at (suc before) w v a b =
      let same : a.0 ≡ b.0 = one_world_at before a.0 b.0 a.3 b.3 in
      let first : a.1 ≡ b.1 = one_first b.0 a.1 b.1 (subst (λ (u : Cluster). IsFirstMoment u a.1) same a.4) b.4 in
      let are : AreWindowsOfAll plan b.1 b.0 a.2 = subst (λ f. AreWindowsOfAll plan f b.0 a.2) first (subst (λ (u : Cluster). AreWindowsOfAll plan a.1 u a.2) same a.5) in
      let stands : StandsAfter plan.division b.0 a.2 w = subst (λ (u : Cluster). StandsAfter plan.division u a.2 w) same a.6 in
      one_after plan.setup is.sound plan.division (bound_of plan b.1) b.0 (whole_at before b.0 b.3).numbered plan.parts a.2 b.2 are.windows b.5.windows are.named b.5.named are.all b.5.all w v stands b.6

  pub one_at : (round : ℕ) (w v : Cluster) (first second : Option ℕ) → IsRound plan round w first → IsRound plan round v second → (w ≡ v) × (first ≡ second)
  one_at round w v first second a b =
      let same : w ≡ v = one_world_at round w v a.world b.world in
      (same, one_first v first second (subst (λ (u : Cluster). IsFirstMoment u first) same a.pends) b.pends)

  pub some_at : (round : ℕ) → (w : Cluster) × (first : Option ℕ) × IsRound plan round w first
  some_at zero =
      let world = some_world plan.setup is.sound plan.since is.in_time in
      let first = some_first world.0 in
      (world.0, first.0, record { world = world.1; pends = first.1 })
  some_at (suc before) =
      let from = some_at before in
      let windows = windows_at plan.setup is.sound plan.division from.0 (bound_of plan from.1) plan.parts in
      let are : AreWindowsOfAll plan from.1 from.0 windows = record {
        windows = are_at plan.setup is.sound plan.division from.0 (bound_of plan from.1) plan.parts;
        named = below_at plan.setup is.sound plan.division from.0 (bound_of plan from.1) plan.parts;
        all = all_at plan.setup is.sound plan.division from.0 (bound_of plan from.1) plan.parts;
      } in
      let after = some_after from.0 (whole_at before from.0 from.2.world) from.1 from.2.pends windows are in
      let first = some_first after.0 in
      (after.0, first.0, record { world = (from.0, from.1, windows, from.2.world, from.2.pends, are, after.1); pends = first.1 })

  -- while something pends up to the end, a round's number is no more than the first moment that pends
  pub number_at : (round first : ℕ) (w : Cluster) → IsRound plan round w (Some first) → first ≤ plan.setup.end → round ≤ first
  number_at zero first w round low = omega arith
  number_at (suc before) first w round low =
      let world = round.world in
      by_first world.1 (λ f from soon. number_at before f round.world.0 from soon) (record { world = world.3; pends = world.4 })
      (λ q here. pends_past world.0 (whole_at before world.0 world.3) world.1 world.4 world.2 world.5 w world.6 q here)
    where
      by_first : (f : Option ℕ) → ((g : ℕ) → IsRound plan before round.world.0 (Some g) → g ≤ plan.setup.end → before ≤ g) → IsRound plan before round.world.0 f
          → ((q : Key) → IsPending w q → bound_of plan f (plan.division q.to) ≤ q.at) → suc before ≤ first
      by_first None rest from past = let late = (round.pends (plan.setup.end + 1)).0 past in absurd (omega arith)
      by_first (Some f) rest from past =
          let late = (round.pends (min (f + 1) (plan.setup.end + 1))).0 (λ q here. let h = past q here in let some = is.ways.some (plan.division q.to) in omega arith) in
          let sooner : f < first = omega arith in
          let more : before ≤ f = rest f from (omega arith) in
          omega arith

-- ---- the laws

pub some_round : (plan : Plan) (round : ℕ) → IsPlan plan → (w : Cluster) × (first : Option ℕ) × IsRound plan round w first
some_round plan round is = some_at plan is round

pub one_round : (plan : Plan) (round : ℕ) (w v : Cluster) (first second : Option ℕ) → IsPlan plan → IsRound plan round w first → IsRound plan round v second → (w ≡ v) × (first ≡ second)
one_round plan round w v first second is a b = one_at plan is round w v first second a b

pub round_whole : (plan : Plan) (round : ℕ) (w : Cluster) (first : Option ℕ) → IsPlan plan → IsRound plan round w first → IsWholeCluster plan.setup w
round_whole plan round w first is begun = whole_at plan is round w begun.world

pub round_number : (plan : Plan) (round first : ℕ) (w : Cluster) → IsPlan plan → IsRound plan round w (Some first) → first ≤ plan.setup.end → round ≤ first
round_number plan round first w is begun low = number_at plan is round first w begun low

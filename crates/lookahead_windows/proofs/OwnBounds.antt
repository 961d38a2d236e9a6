-- The bounds of a round are the parts' own.
use Rattle.std.proofs.Common.{◌≡◌, ℕ, ◌-◌, ◌<◌, ◌≤◌, zero-le, List, [], ◌∷◌, Option, Some, ap, ◌∙◌, sym, subst, refl, arith}
use Rattle.scenario.specs.Setup.{Setup}
use Rattle.member_laws.specs.Runs.{Cluster}
use Rattle.windows.specs.Cluster.{link_delay, IsPeopled, LiesBetween}
use Rattle.windows.specs.Horizon.{Walk, IsWalk, walk_length, length_of}
use Rattle.lookahead.specs.Between.{IsLeastBetween}
use Rattle.worker_queue.specs.Queue.{NoneIsBelow}
use Rattle.lookahead_windows.specs.Plan.{Plan, IsPlan, bound_of}
use Rattle.lookahead_windows.specs.Starts.{IsRound}
use Rattle.lookahead_windows.proofs.Turns.{one_round, round_horizons, bound_past}
use Rattle.lookahead_windows.specs.Bounds.{IsWithinHorizon, ServesAll, IsOwnBound}

-- what lies between parts by the least delays is no less than by any others that lie between them, so no walk is shorter by those
module _ (s : Setup) (division : ℕ → ℕ) (low between : ℕ → ℕ → ℕ) (lies : LiesBetween s division low) (near : IsLeastBetween s division between) where
  longer : (from : ℕ) (path : List ℕ) → IsPeopled s division from → IsWalk (IsPeopled s division) from path → walk_length low from path ≤ walk_length between from path
  longer from [] begins walk = zero-le
  longer from (next ∷ rest) begins (apart, here, walk) =
      let more = longer next rest here walk in
      let (i, j, few, fewer, is, goes, delay) = near.reached from next apart begins here in
      let link : low (division i) (division j) ≤ link_delay s i j = lies i j few fewer (λ same. apart (sym is ∙ same ∙ goes)) in
      let step : low from next ≤ between from next =
      subst (λ p. low p next ≤ between from next) is (subst (λ q. low (division i) q ≤ between from next) goes (subst (λ d. low (division i) (division j) ≤ d) delay link)) in
      omega (arith, more, step)

module _ (plan : Plan) (round part first : ℕ) (w : Cluster) (is : IsPlan plan) (named : part < plan.parts) (begins : IsRound plan round w (Some first)) (pends : first ≤ plan.setup.end) where
  within : IsWithinHorizon plan.setup plan.division w part (bound_of plan (Some first) part)
  within between near q here walk =
      (round_horizons plan round w (Some first) between no_shorter begins).clear part q here walk
    where
      no_shorter : (from to : ℕ) (other : Walk (IsPeopled plan.setup plan.division) from to) → plan.way_into to ≤ length_of between other
      no_shorter from to other =
          let way = is.ways.shortest from to other in
          let more = longer plan.setup plan.division is.ways.between between is.ways.lies near from (other.next ∷ other.rest) other.begins other.apart in
          omega (arith, way, more)

  no_earlier : (t : ℕ) → ServesAll plan w t → t ≤ bound_of plan (Some first) part
  no_earlier t (shortest, least, common) =
      let none : NoneIsBelow w.pending (t - shortest) = λ q here. let near = common.near q here in omega (arith, near) in
      let low = (begins.pends (t - shortest)).0 none in
      let way = least part named in
      let in_time = common.in_time in
      omega (arith, low, way, in_time)

pub own_bound : (plan : Plan) (round part first : ℕ) (w : Cluster) → IsPlan plan → part < plan.parts → IsRound plan round w (Some first) → first ≤ plan.setup.end → IsOwnBound plan round part (bound_of plan (Some first) part)
own_bound plan round part first w is named begins pends = record {
  world = w;
  first = first;
  begins = begins;
  pends = pends;
  in_time = omega arith;
  within = within plan round part first w is named begins pends;
  no_earlier = no_earlier plan round part first w is named begins pends;
  is = refl;
}

pub one_bound : (plan : Plan) (round part bound other : ℕ) → IsPlan plan → IsOwnBound plan round part bound → IsOwnBound plan round part other → bound ≡ other
one_bound plan round part bound other is one two =
    let same = (one_round plan round one.world two.world (Some one.first) (Some two.first) is one.begins two.begins).1 in
    one.is ∙ ap (λ (o : Option ℕ). bound_of plan o part) same ∙ sym two.is

pub goes_past : (plan : Plan) (round part bound : ℕ) → IsPlan plan → (is : IsOwnBound plan round part bound) → is.first < bound
goes_past plan round part bound is own = let past = bound_past plan own.first part is own.pends in omega (arith, past, own.is)

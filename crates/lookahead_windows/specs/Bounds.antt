-- How far the window of each part goes in a round, by what may still reach the part.
use Rattle.std.specs.Prelude.{◌≡◌, ℕ, ◌+◌, ◌<◌, ◌≤◌, List, length, Some}
use Rattle.base.specs.declared.key.Key.{Key}
use Rattle.base.specs.World.{IsPending}
use Rattle.scenario.specs.Setup.{Setup}
use Rattle.scenario.specs.Division.{Deal}
use Rattle.member_laws.specs.Runs.{Cluster}
use Rattle.windows.specs.Cluster.{IsPeopled}
use Rattle.windows.specs.Horizon.{Walk, length_of}
use Rattle.windows.specs.Parts.{IsCommonBound}
use Rattle.lookahead.specs.Between.{IsLeastBetween}
use Rattle.lookahead.specs.Walks.{Table}
use Rattle.turns.specs.Bounds.{AreHorizonsOf}
use Rattle.lookahead_windows.specs.Plan.{Plan, bound_of}
use Rattle.lookahead_windows.specs.Starts.{IsRound}
use Rattle.lookahead_windows.specs.Basis.{Basis, plan_of}
use Rattle.lookahead_windows.specs.Walks.{AreRoundWays}

-- That moment is no later than the part's horizon: nothing that pends in the world, or is on its way there, can come to the part
-- before it, straight or by members of other parts, since no walk of links from its part to this one is shorter.
abbrev pub IsWithinHorizon : Setup → (ℕ → ℕ) → Cluster → ℕ → ℕ → Type 0
IsWithinHorizon s division w part t =
    (between : ℕ → ℕ → ℕ) → IsLeastBetween s division between
    → (q : Key) → IsPending w q → (walk : Walk (IsPeopled s division) (division q.to) part) → t ≤ q.at + length_of between walk

-- The windows of all parts may go up to that moment: from what pends in the world, by the shortest of the ways into the parts.
abbrev pub ServesAll : Plan → Cluster → ℕ → Type 0
ServesAll plan w t = (shortest : ℕ) × ((part : ℕ) → part < plan.parts → shortest ≤ plan.way_into part) × IsCommonBound plan.setup.end (Some shortest) w t

-- The own bound of a part in the round of that number, in which something pends up to the end. In the world in which the round
-- begins it is no later than the part's horizon, nor than the moment after the end; no earlier than what serves all parts; and as
-- far past the first moment that pends as the way into the part goes.
pub record IsOwnBound (plan : Plan) (round part bound : ℕ) : Type 0 where
  pub world : Cluster
  pub first : ℕ
  pub begins : IsRound plan round world (Some first)
  pub pends : first ≤ plan.setup.end
  pub in_time : bound ≤ plan.setup.end + 1
  pub within : IsWithinHorizon plan.setup plan.division world part bound
  pub no_earlier : (t : ℕ) → ServesAll plan world t → t ≤ bound
  pub is : bound ≡ bound_of plan (Some first) part

-- ---- the calls that a gate gets

-- each part of these rounds may be entered below its own bound; windows count from 1
abbrev pub AwaitsRounds : (ℕ → ℕ → ℕ → Type 0) → Basis → Type 0
AwaitsRounds awaits basis = (round part bound : ℕ) → part < basis.deal.parts → IsOwnBound (plan_of basis) round part bound → awaits (round + 1) part bound

-- the ways into the parts of this division of the scenario's members
pub record AreWaysOf (s : Setup) (deal : Deal) (ways : List ℕ) : Type 0 where
  pub table : Table
  pub horizons : AreHorizonsOf table s deal
  pub count : length ways ≡ deal.parts
  pub ticks : AreRoundWays s table ways

-- A call that a gate gets in the scenario's run by this division: a window is that of a part in a round, below the part's own bound there.
pub record IsToldOf (s : Setup) (deal : Deal) (window part bound : ℕ) : Type 0 where
  pub ways : List ℕ
  pub by : AreWaysOf s deal ways
  pub round : ℕ
  pub counts : window ≡ round + 1
  pub named : part < deal.parts
  pub own : IsOwnBound (plan_of (record { setup = s; deal = deal; ways = ways })) round part bound

-- a gate may get all those calls
abbrev pub AwaitsRun : (ℕ → ℕ → ℕ → Type 0) → Setup → Deal → Type 0
AwaitsRun awaits s deal = (window part bound : ℕ) → IsToldOf s deal window part bound → awaits window part bound

-- Rounds: in each, every part runs its window below a bound of its own, and the events that went out come to their parts.
use Rattle.std.specs.Prelude.{◌≡◌, ◌↔◌, ℕ, zero, suc, ◌<◌, ◌≤◌, List, Option, Some, None}
use Rattle.std.specs.List.{AllByRecursion}
use Rattle.trace.specs.declared.row.Row.{Row}
use Rattle.worker_queue.specs.Queue.{NoneIsBelow}
use Rattle.member.specs.declared.event_kind.EventKind.{EventKind}
use Rattle.member.specs.State.{State}
use Rattle.member.specs.Step.{step}
use Rattle.member_laws.specs.Runs.{Cluster}
use Rattle.windows.specs.Parts.{Window, AreWindowsOfDifferentParts, IncludesPart, StandsAfter}
use Rattle.lookahead_windows.specs.Before.{IsWorldBefore}
use Rattle.lookahead_windows.specs.Plan.{Plan, bound_of}

-- no later than that moment, where there is one
abbrev pub IsUpTo : Option ℕ → ℕ → Type 0
IsUpTo None t = Unit {0}
IsUpTo (Some at) t = t ≤ at

-- the first moment that pends in the world: just before moments up to it nothing pends, where it is None never
abbrev pub IsFirstMoment : Cluster → Option ℕ → Type 0
IsFirstMoment w first = (t : ℕ) → NoneIsBelow w.pending t ↔ IsUpTo first t

-- The windows of all parts in a world, one of each, below their bounds where this is the first moment that pends.
pub record AreWindowsOfAll (plan : Plan) (first : Option ℕ) (w : Cluster) (ds : List (Window State EventKind Row)) : Type 0 where
  pub windows : AreWindowsOfDifferentParts (step plan.setup) plan.division (bound_of plan first) w ds
  pub named : AllByRecursion (λ (d : Window State EventKind Row). d.part < plan.parts) ds
  pub all : (part : ℕ) → part < plan.parts → IncludesPart ds part

-- The world in which a round begins: the first one in the world before the moment from which on the rounds go, each other in
-- that to which the windows of all parts in the round before it lead.
abbrev pub IsRoundWorld : Plan → ℕ → Cluster → Type 0
IsRoundWorld plan zero w = IsWorldBefore plan.setup plan.since w
IsRoundWorld plan (suc before) w =
    (u : Cluster) × (first : Option ℕ) × (windows : List (Window State EventKind Row))
    × IsRoundWorld plan before u × IsFirstMoment u first × AreWindowsOfAll plan first u windows × StandsAfter plan.division u windows w

-- A round of that number begins in this world, and this is the first moment that pends there.
pub record IsRound (plan : Plan) (round : ℕ) (w : Cluster) (first : Option ℕ) : Type 0 where
  pub world : IsRoundWorld plan round w
  pub pends : IsFirstMoment w first

-- the moment up to which a part has run as a round of that number begins
abbrev pub HasRunTo : Plan → ℕ → ℕ → ℕ → Type 0
HasRunTo plan zero part t = t ≡ plan.since
HasRunTo plan (suc before) part t = (w : Cluster) × (first : Option ℕ) × IsRound plan before w first × (t ≡ bound_of plan first part)

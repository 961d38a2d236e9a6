-- What the rounds of a run go by, and how far the windows of each go.
use Rattle.std.specs.Prelude.{ℕ, ◌+◌, ◌<◌, ◌≤◌, min, Option, Some, None}
use Rattle.scenario.specs.Setup.{Setup, IsSound, member_count}
use Rattle.windows.specs.Cluster.{IsPeopled, LiesBetween}
use Rattle.windows.specs.Horizon.{Walk, length_of}

-- The scenario, the part of each member, how many parts there are, how many ticks an event takes at least on its way into
-- each part, and the moment from which on the rounds go.
pub record Plan : Type 0 where
  pub setup : Setup
  pub division : ℕ → ℕ
  pub parts : ℕ
  pub way_into : ℕ → ℕ
  pub since : ℕ

-- No walk of links from part to part, or back to one, is shorter than the way into the part where it ends, which takes a tick at
-- least.
pub record AreWaysInto (s : Setup) (division way_into : ℕ → ℕ) : Type 0 where
  pub between : ℕ → ℕ → ℕ
  pub lies : LiesBetween s division between
  pub shortest : (from to : ℕ) (walk : Walk (IsPeopled s division) from to) → way_into to ≤ length_of between walk
  pub some : (part : ℕ) → 0 < way_into part

-- The scenario is sound, its members, and nobody else, have the parts, and these are the ways into them.
pub record IsPlan (plan : Plan) : Type 0 where
  pub sound : IsSound plan.setup
  pub below : (m : ℕ) → m < member_count plan.setup → plan.division m < plan.parts
  pub named : (m : ℕ) → plan.division m < plan.parts → m < member_count plan.setup
  pub ways : AreWaysInto plan.setup plan.division plan.way_into
  pub in_time : plan.since ≤ plan.setup.end + 1

-- How far the window of a part goes in a round, where this is the first moment that pends anywhere: as far past it as
-- anything takes on its way into the part, and no later than the moment after the end.
abbrev pub bound_of : Plan → Option ℕ → ℕ → ℕ
bound_of plan None part = plan.setup.end + 1
bound_of plan (Some first) part = min (first + plan.way_into part) (plan.setup.end + 1)

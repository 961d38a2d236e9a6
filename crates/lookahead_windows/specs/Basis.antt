-- What a run by rings goes by.
use Rattle.std.specs.Prelude.{◌≡◌, ℕ, ◌≤◌, List, length, unwrap_or}
use Rattle.std.specs.List.{AllByRecursion, slice_get}
use Rattle.scenario.specs.Setup.{Setup, member_count}
use Rattle.scenario.specs.Division.{Deal}
use Rattle.lookahead.specs.Between.{part_number}
use Rattle.lookahead_windows.specs.Plan.{Plan, IsPlan}
use Rattle.lookahead_windows.specs.declared.course.Rounds.{Rounds}

-- the scenario, the part of each member, and for each part how many ticks an event takes at least on its way into it
pub record Basis : Type 0 where
  pub setup : Setup
  pub deal : Deal
  pub ways : List ℕ

-- the part of each member, by its number
abbrev pub division_of : Basis → ℕ → ℕ
division_of basis = part_number basis.deal

-- the way into the part of that number, a tick where there is no such part
abbrev pub way_at : List ℕ → ℕ → ℕ
way_at ways part = unwrap_or (slice_get ways part) 1

-- the rounds that go by that: from the first moment on
abbrev pub plan_of : Basis → Plan
plan_of basis = record { setup = basis.setup; division = division_of basis; parts = basis.deal.parts; way_into = way_at basis.ways; since = 0 }

-- Each member of the scenario has one of the parts, each part has its way, and its rounds may go by them.
pub record IsBasis (basis : Basis) : Type 0 where
  pub divides : length basis.deal.part_of ≡ member_count basis.setup
  pub ways : length basis.ways ≡ basis.deal.parts
  pub plan : IsPlan (plan_of basis)

-- what these rounds go by
abbrev pub basis_of : Rounds → Basis
basis_of rounds = record { setup = rounds.cluster.scenario.now; deal = rounds.division.now; ways = rounds.ways.now }

-- The rounds go by that, end with the scenario, and no part has a way that is shorter than their shortest.
pub record GoBy (rounds : Rounds) : Type 0 where
  pub basis : IsBasis (basis_of rounds)
  pub end : rounds.end ≡ rounds.cluster.scenario.now.end
  pub shortest : AllByRecursion (λ way. rounds.shortest ≤ way) rounds.ways.now

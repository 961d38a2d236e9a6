-- Schedules and windows of a scenario's cluster.
use Rattle.std.specs.Prelude.{◌≡◌, ◌≢◌, ℕ, ◌<◌, ◌≤◌, nat_lt, List, Option, Some, None}
use Rattle.std.specs.Cmp.{IsTotalOrder}
use Rattle.std.specs.FinMap.{contains_key}
use Rattle.std.specs.declared.cmp.Ordering.{Ordering}
use Rattle.std.specs.declared.cmp.Ordering.TheVariants.{Less}
use Rattle.base.specs.declared.key.Key.{Key}
use Rattle.base.specs.World.{SequentialRun}
use Rattle.base.specs.Rising.{IsPlaceBefore, IsNumbered}
use Rattle.scenario.specs.Setup.{Setup, member_count, link_between}
use Rattle.trace.specs.declared.row.Row.{Row}
use Rattle.links.specs.Least.{IsDelayOfAPair, IsNoGreater}
use Rattle.member.specs.declared.event_kind.EventKind.{EventKind}
use Rattle.member.specs.State.{State}
use Rattle.member.specs.Places.{place_of}
use Rattle.member.specs.Step.{step}
use Rattle.member_laws.specs.Runs.{Cluster, IsSoundCluster}
use Rattle.windows.specs.Safe.{IsSafe}
use Rattle.windows.specs.Schedule.{TestedStep, Schedule}
use Rattle.windows.specs.Horizon.{IsClear}
use Rattle.windows.specs.Parts.{Window, IncludesPart}

abbrev pub link_delay : Setup → ℕ → ℕ → ℕ
link_delay s i j = (link_between s i j).delay

-- the least delay of a link from a member to another one, where there are two members or more
abbrev pub IsLeastDelay : Setup → Option ℕ → Type 0
IsLeastDelay s None = member_count s ≡ 1
IsLeastDelay s (Some d) = IsDelayOfAPair (link_delay s) (member_count s) d × IsNoGreater (link_delay s) (member_count s) d

-- each event that pends has a number that its sender has used
abbrev pub UsesUpTo : Cluster → Type 0
UsesUpTo = IsNumbered (λ (t : State). t.next_number)

-- a cluster of all members of the scenario, in which each event that pends has a number that its sender has used
pub record IsWholeCluster (s : Setup) (w : Cluster) : Type 0 where
  pub sound : IsSoundCluster s w
  pub numbered : UsesUpTo w
  pub peopled : (m : ℕ) → contains_key w.members m ≡ nat_lt m (member_count s)

-- one safe event of the cluster is handled
abbrev pub SafeStep : Setup → Option ℕ → Cluster → Key → Cluster → List Row → Type 0
SafeStep s least_delay = TestedStep (step s) (IsSafe s.end least_delay)

-- safe events are handled one after the other
abbrev pub SafeSchedule : Setup → Option ℕ → Cluster → List Key → List Row → Cluster → Type 0
SafeSchedule s least_delay = Schedule (step s) (IsSafe s.end least_delay)

-- the run from this world writes these rows, of the events of these keys
abbrev pub IsRunFrom : Setup → Cluster → List Key → List Row → Type 0
IsRunFrom s = SequentialRun (step s) s.end

-- the member of a row
abbrev pub whose : Row → ℕ
whose row = row.member

-- a total order of rows that agrees with the order of their places in the trace
pub record IsRowOrder (cmp : Row → Row → Ordering) : Type 0 where
  pub total : IsTotalOrder cmp
  pub agrees : (a b : Row) → IsPlaceBefore (place_of a) (place_of b) → cmp a b ≡ Less

-- these windows are of all parts
abbrev pub IsWhole : Setup → (ℕ → ℕ) → List (Window State EventKind Row) → Type 0
IsWhole s division windows = (m : ℕ) → m < member_count s → IncludesPart windows (division m)

-- a part that has a member of the scenario
abbrev pub IsPeopled : Setup → (ℕ → ℕ) → ℕ → Type 0
IsPeopled s division part = (m : ℕ) × (m < member_count s) × (division m ≡ part)

-- what lies between two parts is no more than the delay of any link from a member of the one to a member of the other
abbrev pub LiesBetween : Setup → (ℕ → ℕ) → (ℕ → ℕ → ℕ) → Type 0
LiesBetween s division between =
    (i j : ℕ) → i < member_count s → j < member_count s → division i ≢ division j → between (division i) (division j) ≤ link_delay s i j

-- the event is clear in the cluster
abbrev pub IsClearOf : Setup → (ℕ → ℕ) → (ℕ → ℕ → ℕ) → Cluster → Key → Type 0
IsClearOf s division between = IsClear s.end division (IsPeopled s division) between

-- The run of a scenario: its rows, which worlds it reaches, which come after which, and what holds in each.
use Rattle.std.specs.Prelude.{◌≡◌, ℕ, List, Some}
use Rattle.std.specs.FinMap.{get}
use Rattle.base.specs.declared.key.Key.{Key}
use Rattle.base.specs.World.{World, Run, SequentialRun}
use Rattle.scenario.specs.Setup.{Setup}
use Rattle.trace.specs.declared.row.Row.{Row}
use Rattle.member.specs.declared.event_kind.EventKind.{EventKind}
use Rattle.member.specs.State.{State}
use Rattle.member.specs.Opening.{opening}
use Rattle.member.specs.Step.{step, plain_step}
use Rattle.member.specs.CounterOverflow.{IsOverflowed}
use Rattle.member_laws.specs.Words.{IsConsistent, IsAmongMembers}

-- the members and the events that pend
abbrev pub Cluster : Type 0
Cluster = World State EventKind

-- these are the rows of the scenario's run, in the order made
abbrev pub IsRunOf : Setup → List Row → Type 0
IsRunOf s rows = (keys : List Key) × SequentialRun (step s) s.end (opening s) keys rows

-- these are the rows of the run in which a leave and a bye have no effect, as in the format's first version
abbrev pub IsPlainRunOf : Setup → List Row → Type 0
IsPlainRunOf s rows = (keys : List Key) × SequentialRun (plain_step s) s.end (opening s) keys rows

-- next steps lead from the one world to the other, none later than the end
abbrev pub LeadsTo : Setup → Cluster → Cluster → Type 0
LeadsTo s w v = (keys : List Key) × (rows : List Row) × Run (step s) s.end w keys rows v

-- the scenario's run comes to this world
abbrev pub IsReached : Setup → Cluster → Type 0
IsReached s w = LeadsTo s (opening s) w

-- each member's state is consistent, and each event that pends is among members
pub record IsSoundCluster (s : Setup) (w : Cluster) : Type 0 where
  pub states : (m : ℕ) (t : State) → get w.members m ≡ Some t → IsConsistent s m t
  pub events : (k : Key) (c : EventKind) → get w.pending k ≡ Some c → IsAmongMembers s k c

-- the run reaches a world in which a member's counter is past its limit
pub record CounterOverflows (s : Setup) : Type 0 where
  pub keys : List Key
  pub rows : List Row
  pub world : Cluster
  pub reached : Run (step s) s.end (opening s) keys rows world
  pub number : ℕ
  pub member : State
  pub there : get world.members number ≡ Some member
  pub overflow : IsOverflowed member

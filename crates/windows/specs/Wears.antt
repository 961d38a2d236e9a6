-- Counters that pass their limit within a window.
use Rattle.std.specs.Prelude.{◌≡◌, ℕ, List, Some}
use Rattle.std.specs.FinMap.{get}
use Rattle.base.specs.declared.key.Key.{Key}
use Rattle.base.specs.World.{World}
use Rattle.scenario.specs.Setup.{Setup}
use Rattle.trace.specs.declared.row.Row.{Row}
use Rattle.member.specs.declared.event_kind.EventKind.{EventKind}
use Rattle.member.specs.State.{State}
use Rattle.member.specs.Step.{step}
use Rattle.member.specs.CounterOverflow.{IsOverflowed}
use Rattle.windows.specs.Parts.{PartRun}
use Rattle.windows.specs.Window.{is_own}

-- the part's window reaches a world in which a member's counter is past its limit
pub record OverflowsInWindow (s : Setup) (bound : ℕ) (p : World State EventKind) : Type 0 where
  pub keys : List Key
  pub out : List (Key × EventKind)
  pub rows : List Row
  pub world : World State EventKind
  pub reached : PartRun (step s) (is_own p) bound p keys out rows world
  pub number : ℕ
  pub member : State
  pub there : get world.members number ≡ Some member
  pub overflow : IsOverflowed member

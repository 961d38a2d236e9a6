-- Runs of a sound scenario: there is but one, and in it no event takes the place of another.
use Rattle.std.proofs.Common.{◌≡◌, List}
use Rattle.std.specs.FinMap.{remove}
use Rattle.base.specs.declared.key.Key.{Key}
use Rattle.base.specs.World.{World, Run, events_of, outcome}
use Rattle.base.specs.Run.{one_run}
use Rattle.base.specs.Rising.{AreNew}
use Rattle.base.proofs.Rising.{numbered_run, new_step}
use Rattle.scenario.specs.Setup.{Setup, IsSound}
use Rattle.trace.specs.declared.row.Row.{Row}
use Rattle.member.specs.declared.event_kind.EventKind.{EventKind}
use Rattle.member.specs.State.{State}
use Rattle.member.specs.Step.{step}
use Rattle.member.specs.Opening.{opening}
use Rattle.member.proofs.Fair.{steps_later, steps_numbered}
use Rattle.member_laws.proofs.Opened.{opening_numbered}
use Rattle.member_laws.specs.Runs.{IsRunOf}

pub same_rows : (s : Setup) (first second : List Row) → IsSound s → IsRunOf s first → IsRunOf s second → first ≡ second
same_rows s first second sound a b =
    (one_run (step s) (steps_later s sound) s.end a.0 b.0 (opening s) a.1.last b.1.last first second a.1.run a.1.over b.1.run b.1.over).1

pub new_events : (s : Setup) (keys : List Key) (rows : List Row) (w : World State EventKind) (k : Key) (c : EventKind) → IsSound s
    → Run (step s) s.end (opening s) keys rows w → AreNew (remove w.pending k) (events_of (outcome (step s) w k c))
new_events s keys rows w k c sound run =
    let numbers = steps_numbered s sound in
    new_step (λ (t : State). t.next_number) (step s) numbers w k c (numbered_run (λ (t : State). t.next_number) (step s) numbers s.end keys (opening s) w rows (opening_numbered s) run)

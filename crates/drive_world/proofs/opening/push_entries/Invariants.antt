use Rattle.std.proofs.Common.{◌≡◌, ◌+◌, drop}
use Rattle.base.specs.World.{with_events}
use Rattle.drive_process.specs.Driven.{numbered_from}
use Rattle.drive_world.specs.WorldOf.{events_in}
use Rattle.drive_world.proofs.opening.push_entries.Given as goal

-- what the entries that are left add makes all
abbrev pub invariant-loop-place : goal.invariant-loop-place
invariant-loop-place l =
    with_events (events_in l.pending) (numbered_from l.member (l.place + 1) (drop l.place l.script)) ≡ with_events (events_in l.fn.pending) (numbered_from l.member 1 l.script)

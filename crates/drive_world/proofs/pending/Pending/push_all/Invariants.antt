use Rattle.std.proofs.Common.{◌≡◌, map}
use Rattle.base.specs.World.{with_events}
use Rattle.drive_process.specs.ProcessOf.{pair_of}
use Rattle.drive_world.specs.WorldOf.{events_in}
use Rattle.drive_world.proofs.pending.Pending.push_all.Given as goal

-- what all give is what those that are left give behind the ones so far
abbrev pub invariant-loop-event : goal.invariant-loop-event
invariant-loop-event l = with_events (events_in l.fn.self) (map pair_of l.fn.events.items) ≡ with_events (events_in l.self) (map pair_of l.event-iterator.rest.items)

use Rattle.drive_world.specs.WorldOf.{events_in}
use Rattle.drive_world.proofs.Pends.{one_pushed}
use Rattle.drive_world.proofs.pending.Pending.push_all.Goals as goal

pub loop-event-preserved : goal.loop-event-preserved
loop-event-preserved c =
    one_pushed (events_in c.args.self.now) (events_in c.loop-event.self) _ c.args.events.items _ c.next.new.self.rest.items c.in-Some.event c.loop-event.invariant c.in-Some.ensures.steps.0 c.in_ok-push.ensures

use Rattle.drive_world.specs.WorldOf.{events_in}
use Rattle.drive_world.proofs.Scripts.{one_scripted}
use Rattle.drive_world.proofs.world.World.open.Goals as goal

pub loop-number-preserved : goal.loop-number-preserved
loop-number-preserved c =
    one_scripted c.args.scenario.now c.loop-number.number (events_in c.loop-number.pending) _ c.loop-number.invariant c.in_ok-push_script.ensures

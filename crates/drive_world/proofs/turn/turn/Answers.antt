use Rattle.drive_world.specs.DriveOf.{drive_of}
use Rattle.drive_world.proofs.Nexts.{next_by, none_may}
use Rattle.drive_world.proofs.turn.turn.Goals as goal

pub tell-requires-clause-next : goal.tell-requires-clause-next
tell-requires-clause-next g c =
    next_by c.args.setting.now.scenario.now c.args.setting.now.least_delay (drive_of c.args.world.now) c.safe_bound-bound.result c.safe_bound-bound.ensures c.in-Some.key c.in-Some.ensures.first

pub take-requires-clause-none : goal.take-requires-clause-none
take-requires-clause-none g c =
    none_may c.args.setting.now.scenario.now c.args.setting.now.least_delay (drive_of c.args.world.now) c.safe_bound-bound.result c.safe_bound-bound.ensures c.in-None.ensures.none

use Rattle.drive_world.specs.Drives.{IsIdle}
use Rattle.drive_world.proofs.OwnRun.{own_run}
use Rattle.drive_world.proofs.laws.own_members_write_the_run.Goals as goal

pub returns : goal.returns
returns c = λ s encode idle answers rows sound earlier are code says is. own_run s sound earlier encode (IsIdle idle) answers rows are code says is

use Rattle.std.proofs.Common.{arith}
use Rattle.scenario.specs.Setup.{member_count}
use Rattle.partitioning.proofs.Dividing.{divides}
use Rattle.partitioning.proofs.divisions.divided.Goals as goal

pub unreachable-requires : goal.unreachable-requires
unreachable-requires c =
    let members = member_count c.args.scenario.now in
    let division = divides members c.args.parts c.args.part_of.items c.requires.few.0 c.requires.few.1 (omega (arith, c.requires.one_each)) c.requires.below in
    cc

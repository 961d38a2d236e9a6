use Rattle.std.proofs.Common.{ap, ◌∙◌, arith}
use Rattle.drive_world.specs.WorldOf.{processes_from}
use Rattle.drive_world.proofs.ByMember.{one_waits}
use Rattle.drive_world.proofs.processes.Processes.of.Goals as goal

pub loop-number-preserved : goal.loop-number-preserved
loop-number-preserved c = record {
  waiting =
      ap (processes_from 0) c.in_ok-push.ensures.items
      ∙ one_waits c.args.scenario.now c.loop-number.list.items c.of.result c.loop-number.number c.loop-number.invariant.waiting c.loop-number.invariant.many c.of.ensures;
  many = omega (arith, c.in_ok-push.ensures.len, c.loop-number.invariant.many);
}

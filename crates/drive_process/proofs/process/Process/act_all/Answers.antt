use Rattle.std.proofs.Common.{subst}
use Rattle.drive_process.specs.Answers.{AreSoundActions}
use Rattle.drive_process.specs.ProcessOf.{effect_of}
use Rattle.drive_process.proofs.Overflow.{refused, acting_overflow, acting_next}
use Rattle.drive_process.proofs.process.Process.act_all.Goals as goal

pub act-requires : goal.act-requires
act-requires c = (subst (AreSoundActions c.args.here.now.scenario.now c.args.here.now.key.to) c.in-Some.ensures.steps.0 c.loop-action.invariant.sound).0

pub returns-in_err-act : goal.returns-in_err-act
returns-in_err-act c =
    refused _ _ c.from_residual.ensures.1 (λ h. acting_overflow c.args.here.now.scenario.now c.args.here.now.key _ _ c.next.new.self.rest.items c.in-Some.action
    _ (effect_of c.loop-action.self c.loop-action.effects) c.loop-action.invariant.all c.in-Some.ensures.steps.0 (c.in_err-act.ensures.overflow h))

pub loop-action-preserved : goal.loop-action-preserved
loop-action-preserved c = record {
  all =
      acting_next c.args.here.now.scenario.now c.args.here.now.key _ _ c.next.new.self.rest.items c.in-Some.action
      _ (effect_of c.loop-action.self c.loop-action.effects) c.loop-action.invariant.all c.in-Some.ensures.steps.0 _ c.in_ok-act.ensures.ok;
  sound = (subst (AreSoundActions c.args.here.now.scenario.now c.args.here.now.key.to) c.in-Some.ensures.steps.0 c.loop-action.invariant.sound).1;
}

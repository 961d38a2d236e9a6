use Rattle.std.proofs.Common.{refl}
use Rattle.member.specs.Apply.{all_applied}
use Rattle.member.proofs.Lists.{applied_next, applied_overflow}
use Rattle.member.proofs.CounterOverflow.{refused}
use Rattle.member.proofs.member.Member.apply_all.Goals as goal

pub loop-update-init : goal.loop-update-init
unfolding all_applied
loop-update-init c = record { effect = refl; known = c.requires.known }

pub loop-update-preserved : goal.loop-update-preserved
loop-update-preserved c = record {
  effect =
      applied_next c.args.here.now.scenario.now c.args.telling c.args.here.now.key c.args.updates.now c.loop-update.update-index c.update-item.result
      _ _ _ c.loop-update-test.true c.update-item.is c.loop-update.invariant.effect c.in_ok-apply.ensures.ok;
  known = c.in_ok-apply.ensures.kept;
}

pub returns-in_err-apply : goal.returns-in_err-apply
returns-in_err-apply c =
    refused _ _ c.from_residual.ensures.1 (λ h. applied_overflow c.args.here.now.scenario.now c.args.telling c.args.here.now.key c.args.updates.now c.loop-update.update-index c.update-item.result
    _ _ c.loop-update-test.true c.update-item.is c.loop-update.invariant.effect (c.in_err-apply.ensures.overflow h))

use Rattle.std.proofs.Common.{refl}
use Rattle.member.specs.Send.{push_sent, sent_to_each}
use Rattle.member.proofs.Lists.{sent_next, sent_overflow}
use Rattle.member.proofs.CounterOverflow.{kept_push, refused}
use Rattle.member.proofs.member.Member.push_to.Goals as goal

pub loop-to-init : goal.loop-to-init
unfolding sent_to_each
loop-to-init c = record { effect = refl; known = c.requires.known }

pub loop-to-preserved : goal.loop-to-preserved
loop-to-preserved c = record {
  effect =
      sent_next (push_sent c.args.here.now.scenario.now c.args.here.now.key) c.args.them.now c.loop-to.to-index c.to-item.result
      _ _ _ c.loop-to-test.true c.to-item.is c.loop-to.invariant.effect c.in_ok-send_push.ensures.ok;
  known = c.in_ok-send_push.ensures.kept;
}

pub returns-in_err-send_push : goal.returns-in_err-send_push
returns-in_err-send_push c =
    let s = c.args.here.now.scenario.now in
    let k = c.args.here.now.key in
    refused _ _ c.from_residual.ensures.1 (λ h. sent_overflow (push_sent s k) (kept_push s k) c.args.them.now c.loop-to.to-index c.to-item.result
    _ _ c.loop-to-test.true c.to-item.is c.loop-to.invariant.effect (c.in_err-send_push.ensures.overflow h))

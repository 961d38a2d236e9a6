use Rattle.std.proofs.Common.{refl}
use Rattle.member.specs.Send.{bye_sent, sent_to_each}
use Rattle.member.proofs.Lists.{sent_next, sent_overflow}
use Rattle.member.proofs.CounterOverflow.{kept_bye, refused}
use Rattle.member.proofs.member.Member.send_byes.Goals as goal

pub loop-other-init : goal.loop-other-init
unfolding sent_to_each
loop-other-init c = record { effect = refl; known = c.requires.known }

pub loop-other-preserved : goal.loop-other-preserved
loop-other-preserved c = record {
  effect =
      sent_next (bye_sent c.args.here.now.scenario.now c.args.here.now.key) c.args.others.now c.loop-other.other-index c.other-item.result
      _ _ _ c.loop-other-test.true c.other-item.is c.loop-other.invariant.effect c.in_ok-send_bye.ensures.ok;
  known = c.in_ok-send_bye.ensures.kept;
}

pub returns-in_err-send_bye : goal.returns-in_err-send_bye
returns-in_err-send_bye c =
    let s = c.args.here.now.scenario.now in
    let k = c.args.here.now.key in
    refused _ _ c.from_residual.ensures.1 (λ h. sent_overflow (bye_sent s k) (kept_bye s k) c.args.others.now c.loop-other.other-index c.other-item.result
    _ _ c.loop-other-test.true c.other-item.is c.loop-other.invariant.effect (c.in_err-send_bye.ensures.overflow h))

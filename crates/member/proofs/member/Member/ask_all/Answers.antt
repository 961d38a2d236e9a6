use Rattle.std.proofs.Common.{refl}
use Rattle.member.specs.Send.{ping_req_sent, sent_to_each}
use Rattle.member.proofs.Lists.{sent_next, sent_overflow}
use Rattle.member.proofs.CounterOverflow.{kept_ping_req, refused}
use Rattle.member.proofs.member.Member.ask_all.Goals as goal

pub loop-helper-init : goal.loop-helper-init
unfolding sent_to_each
loop-helper-init c = record { effect = refl; known = c.requires.known }

pub loop-helper-preserved : goal.loop-helper-preserved
loop-helper-preserved c = record {
  effect =
      sent_next (ping_req_sent c.args.here.now.scenario.now c.args.here.now.key c.args.target c.args.seq) c.args.helpers.now c.loop-helper.helper-index c.helper-item.result
      _ _ _ c.loop-helper-test.true c.helper-item.is c.loop-helper.invariant.effect c.in_ok-send_ping_req.ensures.ok;
  known = c.in_ok-send_ping_req.ensures.kept;
}

pub returns-in_err-send_ping_req : goal.returns-in_err-send_ping_req
returns-in_err-send_ping_req c =
    let s = c.args.here.now.scenario.now in
    let k = c.args.here.now.key in
    refused _ _ c.from_residual.ensures.1 (λ h. sent_overflow (ping_req_sent s k c.args.target c.args.seq) (kept_ping_req s k c.args.target c.args.seq) c.args.helpers.now c.loop-helper.helper-index c.helper-item.result
    _ _ c.loop-helper-test.true c.helper-item.is c.loop-helper.invariant.effect (c.in_err-send_ping_req.ensures.overflow h))

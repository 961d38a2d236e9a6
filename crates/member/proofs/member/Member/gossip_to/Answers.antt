use Rattle.std.proofs.Common.{refl}
use Rattle.member.specs.Send.{gossip_sent, sent_to_each}
use Rattle.member.proofs.Lists.{sent_next, sent_overflow}
use Rattle.member.proofs.CounterOverflow.{kept_gossip, refused}
use Rattle.member.proofs.member.Member.gossip_to.Goals as goal

pub loop-to-init : goal.loop-to-init
unfolding sent_to_each
loop-to-init c = record { effect = refl; known = c.requires.known }

pub loop-to-preserved : goal.loop-to-preserved
loop-to-preserved c = record {
  effect =
      sent_next (gossip_sent c.args.here.now.scenario.now c.args.here.now.key) c.args.them.now c.loop-to.to-index c.to-item.result
      _ _ _ c.loop-to-test.true c.to-item.is c.loop-to.invariant.effect c.in_ok-send_gossip.ensures.ok;
  known = c.in_ok-send_gossip.ensures.kept;
}

pub returns-in_err-send_gossip : goal.returns-in_err-send_gossip
returns-in_err-send_gossip c =
    let s = c.args.here.now.scenario.now in
    let k = c.args.here.now.key in
    refused _ _ c.from_residual.ensures.1 (λ h. sent_overflow (gossip_sent s k) (kept_gossip s k) c.args.them.now c.loop-to.to-index c.to-item.result
    _ _ c.loop-to-test.true c.to-item.is c.loop-to.invariant.effect (c.in_err-send_gossip.ensures.overflow h))

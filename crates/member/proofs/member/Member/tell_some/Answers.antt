use Rattle.member.proofs.CounterOverflow.{kept_gossip_set_again, refused}
use Rattle.member.proofs.member.Member.tell_some.Goals as goal

pub returns-in_err-spread_gossip : goal.returns-in_err-spread_gossip
returns-in_err-spread_gossip c =
    let s = c.args.here.now.scenario.now in
    let k = c.args.here.now.key in
    refused _ _ c.from_residual.ensures.1 (λ h. kept_gossip_set_again s k _ (c.in_err-spread_gossip.ensures.overflow h))

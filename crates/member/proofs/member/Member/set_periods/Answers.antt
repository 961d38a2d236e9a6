use Rattle.member.proofs.CounterOverflow.{kept_first_push, refused}
use Rattle.member.proofs.member.Member.set_periods.Goals as goal

pub returns-in_err-set_timer : goal.returns-in_err-set_timer
returns-in_err-set_timer c =
    let s = c.args.here.now.scenario.now in
    let k = c.args.here.now.key in
    refused _ _ c.from_residual.ensures.1 (λ h. kept_first_push s k c.args.beat s.gossip _ (c.in_err-set_timer.ensures.overflow h))

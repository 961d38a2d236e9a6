use Rattle.member.specs.Send.{push_sent}
use Rattle.member.proofs.CounterOverflow.{kept_push, kept_each, refused}
use Rattle.member.proofs.member.Member.push_on.Goals as goal

pub returns-in_err-set_timer : goal.returns-in_err-set_timer
returns-in_err-set_timer c =
    let s = c.args.here.now.scenario.now in
    let k = c.args.here.now.key in
    refused _ _ c.from_residual.ensures.1 (λ h. kept_each (push_sent s k) (kept_push s k) c.args.them.now _ (c.in_err-set_timer.ensures.overflow h))

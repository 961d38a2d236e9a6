use Rattle.member.proofs.CounterOverflow.{kept_called, refused}
use Rattle.member.proofs.member.Member.help_and_call.Goals as goal

pub returns-in_err-ask_any : goal.returns-in_err-ask_any
returns-in_err-ask_any c =
    let s = c.args.here.now.scenario.now in
    let k = c.args.here.now.key in
    refused _ _ c.from_residual.ensures.1 (λ h. kept_called s k c.args.probe.now _ (c.in_err-ask_any.ensures.overflow h))

use Rattle.member.proofs.CounterOverflow.{kept_if_waiting, refused}
use Rattle.member.proofs.member.Member.end_single_probe.Goals as goal

pub returns-in_err-settle_probe : goal.returns-in_err-settle_probe
returns-in_err-settle_probe c =
    let s = c.args.here.now.scenario.now in
    let k = c.args.here.now.key in
    refused _ _ c.from_residual.ensures.1 (λ h. kept_if_waiting s k _ (c.in_err-settle_probe.ensures.overflow h))

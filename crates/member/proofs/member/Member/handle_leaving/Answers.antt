use Rattle.member.proofs.CounterOverflow.{refused}
use Rattle.member.proofs.ProcessOverflow.{kept_gone_on}
use Rattle.member.proofs.member.Member.handle_leaving.Goals as goal

pub returns-in_err-handle_process : goal.returns-in_err-handle_process
returns-in_err-handle_process c =
    let s = c.args.here.now.scenario.now in
    let k = c.args.here.now.key in
    refused _ _ c.from_residual.ensures.1 (λ h. kept_gone_on s k _ (c.in_err-handle_process.ensures.overflow h))

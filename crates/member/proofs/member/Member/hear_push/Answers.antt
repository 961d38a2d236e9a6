use Rattle.member.specs.Step.{push_heard}
use Rattle.member.proofs.CounterOverflow.{kept_merged, refused}
use Rattle.member.proofs.member.Member.hear_push.Goals as goal

pub returns-in_err-send_pull : goal.returns-in_err-send_pull
unfolding push_heard
returns-in_err-send_pull c =
    let s = c.args.here.now.scenario.now in
    let k = c.args.here.now.key in
    refused _ _ c.from_residual.ensures.1 (λ h. kept_merged s k c.args.entries.now _ (c.in_err-send_pull.ensures.overflow h))

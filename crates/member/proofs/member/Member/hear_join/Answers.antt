use Rattle.member.specs.Step.{join_handled}
use Rattle.member.proofs.CounterOverflow.{kept_welcome, refused}
use Rattle.member.proofs.member.Member.hear_join.Goals as goal

pub returns-in_err-apply : goal.returns-in_err-apply
unfolding join_handled
returns-in_err-apply c =
    let k = c.args.here.now.key in
    refused _ _ c.from_residual.ensures.1 (λ h. kept_welcome c.args.here.now.scenario.now k k.from _ (c.in_err-apply.ensures.overflow h))

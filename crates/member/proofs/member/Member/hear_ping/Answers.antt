use Rattle.member.specs.Step.{ping_heard}
use Rattle.member.proofs.CounterOverflow.{kept_ack, refused}
use Rattle.member.proofs.member.Member.hear_ping.Goals as goal

pub returns-in_err-apply_all : goal.returns-in_err-apply_all
unfolding ping_heard
returns-in_err-apply_all c =
    let k = c.args.here.now.key in
    refused _ _ c.from_residual.ensures.1 (λ h. kept_ack c.args.here.now.scenario.now k k.from c.args.initiator c.args.seq _ (c.in_err-apply_all.ensures.overflow h))

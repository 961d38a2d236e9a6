use Rattle.member.specs.Step.{timed_ack_heard}
use Rattle.member.proofs.CounterOverflow.{kept_timed_taken, refused}
use Rattle.member.proofs.member.Member.hear_timed_ack.Goals as goal

pub returns-in_err-apply_all : goal.returns-in_err-apply_all
unfolding timed_ack_heard
returns-in_err-apply_all c =
    let s = c.args.here.now.scenario.now in
    let k = c.args.here.now.key in
    refused _ _ c.from_residual.ensures.1 (λ h. kept_timed_taken s k c.args.initiator c.args.seq _ (c.in_err-apply_all.ensures.overflow h))

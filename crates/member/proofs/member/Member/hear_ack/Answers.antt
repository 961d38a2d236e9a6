use Rattle.member.specs.Step.{ack_heard}
use Rattle.member.proofs.CounterOverflow.{kept_taken, refused}
use Rattle.member.proofs.member.Member.hear_ack.Goals as goal

pub returns-in_err-apply_all : goal.returns-in_err-apply_all
unfolding ack_heard
returns-in_err-apply_all c =
    refused _ _ c.from_residual.ensures.1 (λ h. kept_taken c.args.here.now.scenario.now c.args.here.now.key c.args.initiator c.args.seq _ (c.in_err-apply_all.ensures.overflow h))

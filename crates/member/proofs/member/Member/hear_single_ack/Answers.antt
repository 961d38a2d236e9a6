use Rattle.member.specs.LateAcks.{single_ack_heard}
use Rattle.member.specs.declared.announce.Announce.TheVariants.{Aloud}
use Rattle.member.proofs.CounterOverflow.{kept_all, refused}
use Rattle.member.proofs.member.Member.hear_single_ack.Goals as goal

pub returns-in_err-take_single_ack : goal.returns-in_err-take_single_ack
unfolding single_ack_heard
returns-in_err-take_single_ack c =
    refused _ _ c.from_residual.ensures.1 (λ h. kept_all c.args.here.now.scenario.now Aloud c.args.here.now.key c.args.updates.now _ (c.in_err-take_single_ack.ensures.overflow h))

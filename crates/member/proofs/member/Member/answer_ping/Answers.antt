use Rattle.member.specs.LateAcks.{ping_answered}
use Rattle.member.specs.declared.announce.Announce.TheVariants.{Aloud}
use Rattle.member.proofs.CounterOverflow.{kept_all, refused}
use Rattle.member.proofs.member.Member.answer_ping.Goals as goal

pub returns-in_err-send_pings_ack : goal.returns-in_err-send_pings_ack
unfolding ping_answered
returns-in_err-send_pings_ack c =
    refused _ _ c.from_residual.ensures.1 (λ h. kept_all c.args.here.now.scenario.now Aloud c.args.here.now.key c.args.updates.now _ (c.in_err-send_pings_ack.ensures.overflow h))

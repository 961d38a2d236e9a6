use Rattle.member.proofs.CounterOverflow.{kept_relay, refused}
use Rattle.member.proofs.member.Member.give_help.Goals as goal

pub returns-in_err-send_plain_ping : goal.returns-in_err-send_plain_ping
returns-in_err-send_plain_ping c =
    refused _ _ c.from_residual.ensures.1 (λ h. kept_relay c.args.here.now.scenario.now c.args.here.now.key c.args.seq _ (c.in_err-send_plain_ping.ensures.overflow h))

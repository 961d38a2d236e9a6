use Rattle.member.specs.StateOf.{effect_of}
use Rattle.member.proofs.CounterOverflow.{overflow_probe, overflow_out, overflow_pinged, refused}
use Rattle.member.proofs.member.Member.begin_probe.Goals as goal

pub returns-then-self-ge-COUNTER_LIMIT :
    goal.returns-then-self-ge-COUNTER_LIMIT
returns-then-self-ge-COUNTER_LIMIT c =
    overflow_out (overflow_probe c.args.here.now.scenario.now c.args.here.now.key c.args.target (effect_of c.args.self.now c.args.effects.now) c.if-self-ge-COUNTER_LIMIT.true)

pub returns-in_err-send_ping : goal.returns-in_err-send_ping
returns-in_err-send_ping c =
    refused _ _ c.from_residual.ensures.1 (λ h. overflow_pinged c.args.here.now.scenario.now c.args.here.now.key c.args.target (effect_of c.args.self.now c.args.effects.now) _ c.new.ensures (c.in_err-send_ping.ensures.overflow h))

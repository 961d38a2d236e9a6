use Rattle.std.proofs.Common.{◌+◌, ap, ◌∙◌}
use Rattle.lifeguard.specs.Probe.{timed_probe}
use Rattle.member.specs.StateOf.{effect_of}
use Rattle.member.proofs.CounterOverflow.{overflow_timed_probe, overflow_out, overflow_timed_pinged, refused}
use Rattle.member.proofs.member.Member.begin_timed_probe.Goals as goal

pub returns-then-self-ge-COUNTER_LIMIT :
    goal.returns-then-self-ge-COUNTER_LIMIT
returns-then-self-ge-COUNTER_LIMIT c =
    overflow_out (overflow_timed_probe c.args.here.now.scenario.now c.args.here.now.key c.args.next_beat c.args.target (effect_of c.args.self.now c.args.effects.now) c.if-self-ge-COUNTER_LIMIT.true)

pub returns-in_err-send_ping : goal.returns-in_err-send_ping
returns-in_err-send_ping c =
    let self = c.args.self.now in
    refused _ _ c.from_residual.ensures.1 (λ h. overflow_timed_pinged c.args.here.now.scenario.now c.args.here.now.key c.args.next_beat c.args.target c.next_deadline-deadline.result
    (effect_of self c.args.effects.now) c.timed-probe.result c.next_deadline-deadline.ensures
    (c.timed-probe.ensures ∙ ap (λ n. timed_probe (self.sequence + 1) c.args.target n c.next_deadline-deadline.result) c.number_of-number.ensures)
    (c.in_err-send_ping.ensures.overflow h))

use Rattle.std.proofs.Common.{◌<◌, ◌+◌, Some, sym, ap, subst, ◌∙◌}
use Rattle.scenario.specs.Setup.{member_count}
use Rattle.lifeguard.specs.declared.probe.Probe.{Probe}
use Rattle.lifeguard.specs.Probe.{timed_probe}
use Rattle.member.specs.StateOf.{effect_of}
use Rattle.member.proofs.Holds.{holds_probe}
use Rattle.member.proofs.CounterOverflow.{overflow_single_probe, overflow_out, overflow_single_pinged, refused}
use Rattle.member.proofs.member.Member.begin_single_probe.Goals as goal

pub returns-then-self-ge-COUNTER_LIMIT :
    goal.returns-then-self-ge-COUNTER_LIMIT
returns-then-self-ge-COUNTER_LIMIT c =
    overflow_out (overflow_single_probe c.args.here.now.scenario.now c.args.here.now.key c.args.target (effect_of c.args.self.now c.args.effects.now) c.if-self-ge-COUNTER_LIMIT.true)

pub send_probe_ping-requires-clause-known : goal.send_probe_ping-requires-clause-known
send_probe_ping-requires-clause-known c =
    let self = c.args.self.now in
    let n = member_count c.args.here.now.scenario.now in
    holds_probe _ _ self.table self.rota self.probe (Some c.timed-probe.result) _ (subst (λ (p : Probe). p.target < n) (sym c.timed-probe.ensures) c.requires.member) c.requires.known

pub returns-in_err-send_probe_ping : goal.returns-in_err-send_probe_ping
returns-in_err-send_probe_ping c =
    let self = c.args.self.now in
    refused _ _ c.from_residual.ensures.1 (λ h. overflow_single_pinged c.args.here.now.scenario.now c.args.here.now.key c.args.target c.next_deadline-deadline.result
    (effect_of self c.args.effects.now) c.timed-probe.result c.next_deadline-deadline.ensures
    (c.timed-probe.ensures ∙ ap (λ n. timed_probe (self.sequence + 1) c.args.target n c.next_deadline-deadline.result) c.number_of-number.ensures)
    (c.in_err-send_probe_ping.ensures.overflow h))

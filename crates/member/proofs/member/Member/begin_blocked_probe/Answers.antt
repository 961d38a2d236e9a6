use Rattle.std.proofs.Common.{◌<◌, ◌+◌, max, Some, sym, ap, subst, ◌∙◌}
use Rattle.scenario.specs.Setup.{member_count}
use Rattle.lifeguard.specs.declared.probe.Probe.{Probe}
use Rattle.lifeguard.specs.Probe.{timed_probe}
use Rattle.member.specs.StateOf.{effect_of}
use Rattle.member.proofs.Holds.{holds_probe}
use Rattle.member.proofs.CounterOverflow.{overflow_blocked_probe, overflow_out, overflow_blocked_pinged, overflow_blocked_timer, refused}
use Rattle.member.proofs.member.Member.begin_blocked_probe.Goals as goal

pub returns-then-self-ge-COUNTER_LIMIT :
    goal.returns-then-self-ge-COUNTER_LIMIT
returns-then-self-ge-COUNTER_LIMIT c =
    overflow_out
    (overflow_blocked_probe c.args.here.now.scenario.now c.args.here.now.key c.args.target c.args.departs (effect_of c.args.self.now c.args.effects.now) c.if-self-ge-COUNTER_LIMIT.true)

pub send_probe_ping-requires-clause-known : goal.send_probe_ping-requires-clause-known
send_probe_ping-requires-clause-known c =
    let self = c.args.self.now in
    let n = member_count c.args.here.now.scenario.now in
    holds_probe _ _ self.table self.rota self.probe (Some c.timed-probe.result) _ (subst (λ (p : Probe). p.target < n) (sym c.timed-probe.ensures) c.requires.member) c.requires.known

pub returns-in_err-send_probe_ping : goal.returns-in_err-send_probe_ping
returns-in_err-send_probe_ping c =
    let self = c.args.self.now in
    refused _ _ c.from_residual.ensures.1 (λ h. overflow_blocked_pinged c.args.here.now.scenario.now c.args.here.now.key c.args.target c.args.departs c.later-deadline.result
    (effect_of self c.args.effects.now) c.timed-probe.result (c.later-deadline.ensures ∙ ap (λ n. max n c.args.departs) c.next_deadline.ensures)
    (c.timed-probe.ensures ∙ ap (λ n. timed_probe (self.sequence + 1) c.args.target n c.later-deadline.result) c.number_of-number.ensures)
    (c.in_err-send_probe_ping.ensures.overflow h))

pub returns-in_err-make_event : goal.returns-in_err-make_event
returns-in_err-make_event c =
    let self = c.args.self.now in
    refused _ _ c.from_residual-in_err-make_event.ensures.1 (λ h. overflow_blocked_timer c.args.here.now.scenario.now c.args.here.now.key c.args.target c.args.departs c.later-deadline.result
    _ _ (effect_of self c.args.effects.now) _ c.timed-probe.result (c.later-deadline.ensures ∙ ap (λ n. max n c.args.departs) c.next_deadline.ensures)
    (c.timed-probe.ensures ∙ ap (λ n. timed_probe (self.sequence + 1) c.args.target n c.later-deadline.result) c.number_of-number.ensures)
    c.in_ok-send_probe_ping.ensures.ok (c.in_err-make_event.ensures.overflow h))

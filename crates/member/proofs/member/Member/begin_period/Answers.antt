use Rattle.std.proofs.Common.{subst}
use Rattle.member.specs.Effects.{Effect}
use Rattle.member.specs.Step.{next_probed, period_begun}
use Rattle.member.specs.CounterOverflow.{IsOverflowed}
use Rattle.member.proofs.CounterOverflow.{kept_timer, kept_next, refused}
use Rattle.member.proofs.member.Member.begin_period.Goals as goal

pub returns-in_err-end_probe : goal.returns-in_err-end_probe
unfolding period_begun
returns-in_err-end_probe c =
    let s = c.args.here.now.scenario.now in
    let k = c.args.here.now.key in
    refused _ _ c.from_residual.ensures.1 (λ h. kept_timer s k _ _ _ (kept_next s k _ (c.in_err-end_probe.ensures.overflow h)))

pub returns-in_err-probe_next : goal.returns-in_err-probe_next
unfolding period_begun
returns-in_err-probe_next c =
    let s = c.args.here.now.scenario.now in
    let k = c.args.here.now.key in
    refused _ _ c.from_residual-in_err-probe_next.ensures.1 (λ h. kept_timer s k _ _ _ (subst (λ (p : Effect). IsOverflowed (next_probed s k p).state) c.in_ok-end_probe.ensures.ok (c.in_err-probe_next.ensures.overflow h)))

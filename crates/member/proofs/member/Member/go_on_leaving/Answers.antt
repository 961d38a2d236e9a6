use Rattle.std.proofs.Common.{sym, ◌∙◌}
use Rattle.member.specs.StateOf.{effect_of}
use Rattle.member.proofs.CounterOverflow.{refused}
use Rattle.member.proofs.ProcessOverflow.{kept_running}
use Rattle.member.proofs.member.Member.go_on_leaving.Goals as goal

pub returns-in_err-end_intent : goal.returns-in_err-end_intent
returns-in_err-end_intent c =
    let s = c.args.here.now.scenario.now in
    let k = c.args.here.now.key in
    refused _ _ c.from_residual.ensures.1 (λ h. kept_running s k (effect_of c.args.self.now c.args.effects.now) (sym c.is_running.ensures ∙ c.if-not-is_running.false) (c.in_err-end_intent.ensures.overflow h))

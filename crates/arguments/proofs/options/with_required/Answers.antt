use Rattle.std.proofs.Common.{◌∙◌, ◌||◌, ap, ap₂, Bool, true}
use Rattle.std.proofs.lemmas.Result.{IfOk-weaker}
use Rattle.clap.specs.Words.{Rule, rule_of, with_rule}
use Rattle.clap.specs.declared.builder.arg.Arg.{Arg}
use Rattle.arguments.proofs.options.with_required.Goals as goal

abbrev changed : Rule → Rule
changed rule = record rule { required = true }

abbrev global : Arg → Bool
global arg = arg.global

pub returns : goal.returns
returns c app is =
    let rule = ap rule_of c.required.ensures ∙ ap changed c.option.ensures.rule in
    let local = ap global c.required.ensures ∙ c.option.ensures.local in
    IfOk-weaker c.arg.result _ _ (λ more h. (h.shape local ∙ ap₂ with_rule is.0 rule, h.globals ∙ ap₂ ◌||◌ is.1 local)) c.arg.ensures

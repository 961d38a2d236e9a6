use Rattle.std.proofs.Common.{◌∙◌, ◌||◌, ap₂}
use Rattle.std.proofs.lemmas.Result.{IfOk-weaker}
use Rattle.clap.specs.Words.{with_rule}
use Rattle.arguments.proofs.options.with_option.Goals as goal

pub returns : goal.returns
returns c app is =
    IfOk-weaker c.arg.result _ _ (λ more h. (h.shape c.option.ensures.local ∙ ap₂ with_rule is.0 c.option.ensures.rule, h.globals ∙ ap₂ ◌||◌ is.1 c.option.ensures.local)) c.arg.ensures

use Rattle.std.proofs.Common.{◌∙◌, ◌||◌, ap₂}
use Rattle.std.proofs.lemmas.Result.{IfOk-weaker}
use Rattle.clap.specs.Words.{with_rule}
use Rattle.arguments.proofs.options.with_flag.Goals as goal

pub returns : goal.returns
returns c app is =
    IfOk-weaker c.arg.result _ _ (λ more h. (h.shape c.flag.ensures.local ∙ ap₂ with_rule is.0 c.flag.ensures.rule, h.globals ∙ ap₂ ◌||◌ is.1 c.flag.ensures.local)) c.arg.ensures

use Rattle.std.proofs.Common.{◌∙◌, ◌||◌, ap₂}
use Rattle.std.proofs.lemmas.Result.{IfOk-weaker}
use Rattle.clap.specs.Words.{with_rule}
use Rattle.command_line.proofs.joining.with_shards.Goals as goal

pub returns : goal.returns
returns c app is =
    let local = c.shards_argument.ensures.local in
    IfOk-weaker c.arg.result _ _ (λ more h. (h.shape local ∙ ap₂ with_rule is.0 c.shards_argument.ensures.rule, h.globals ∙ ap₂ ◌||◌ is.1 local)) c.arg.ensures

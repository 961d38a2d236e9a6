use Rattle.std.proofs.Common.{rules, ◌≡◌, ◌∙◌, ap, ap₂}
use Rattle.std.proofs.lemmas.Result.{IfOk-weaker}
use Rattle.clap.specs.Words.{App, app_of, with_subcommand}
use Rattle.arguments.specs.Rules.{IsLocal}
use Rattle.command_line.proofs.chained.and_command.Goals as goal

pub returns : goal.returns
returns c app other is local =
    let own : app_of c.in_ok-so_far.field-0 ≡ app = search rules in
    let given : IsLocal other c.in_ok-below.below = search rules in
    IfOk-weaker c.subcommand.result _ _ (λ command h. h.shape given.1 ∙ ap₂ with_subcommand own (ap (λ (a : App). a.top) given.0)) c.subcommand.ensures

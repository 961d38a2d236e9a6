use Rattle.std.proofs.Common.{◌∙◌, ap, subst, map}
use Rattle.std.proofs.lemmas.Result.{IfOk-weaker}
use Rattle.clap.specs.Words.{FailsBy, fault_of, is_simple, is_simple_and_free, subcommand_of}
use Rattle.command_line.proofs.App.{app_is_simple, app_is_free}
use Rattle.command_line.proofs.words.matches_of.Goals as goal

pub returns-clause-run : goal.returns-clause-run
returns-clause-run g c =
    let words = map g.S.AsStr.text c.args.words.now in
    let app_is = c.in_ok-program_command.ensures in
    let parse = c.try_get_matches_from in
    IfOk-weaker parse.result _ _ (λ m h. (h (ap is_simple app_is ∙ app_is_simple)).1 ∙ ap (λ a. subcommand_of a words) app_is) parse.ensures.matches

pub returns-clause-kinds : goal.returns-clause-kinds
returns-clause-kinds g c =
    let words = map g.S.AsStr.text c.args.words.now in
    let app_is = c.in_ok-program_command.ensures in
    let parse = c.try_get_matches_from in
    subst (λ a. FailsBy (fault_of a words) parse.result) app_is (parse.ensures.kinds (ap is_simple_and_free app_is ∙ app_is_free))

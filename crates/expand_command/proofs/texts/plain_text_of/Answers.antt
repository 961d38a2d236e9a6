use Rattle.std.proofs.Common.{Option, sym, subst}
use Rattle.std.proofs.lemmas.Result.{IfErr-weaker, IfOk-weaker}
use Rattle.toml.specs.Data.{Data}
use Rattle.toml.specs.View.{view}
use Rattle.expand_command.specs.Texts.{IfNamed, RefusesBytes, RefusesTree}
use Rattle.expand_command.proofs.Failures.{named, refused_bytes}
use Rattle.expand_command.proofs.texts.plain_text_of.Goals as goal

pub returns-in-Ok-clause-text : goal.returns-in-Ok-clause-text
returns-in-Ok-clause-text c =
    IfOk-weaker c.text_of_document.result _ _ (λ text is. record { document = view c.in-Ok.document; read = c.in-Ok.ensures.read; expanded = is }) c.text_of_document.ensures.text

pub returns-in-Ok-clause-refused : goal.returns-in-Ok-clause-refused
returns-in-Ok-clause-refused c =
    IfErr-weaker c.text_of_document.result _ _ (λ failure is. refused_bytes c.args.bytes.now (view c.in-Ok.document) failure c.in-Ok.ensures.read is) c.text_of_document.ensures.refused

pub returns-in-Err-clause-refused : goal.returns-in-Err-clause-refused
returns-in-Err-clause-refused c =
    subst (IfNamed (RefusesBytes c.args.bytes.now)) (sym c.text_failure.ensures)
    (named (RefusesBytes c.args.bytes.now) c.in-Err.refusal.rule
    (λ other.
    let none = c.in-Err.ensures.refused other in
    subst (λ (tree : Option Data). RefusesTree tree c.in-Err.refusal.rule) (sym none.0) none.1))

use Rattle.std.proofs.Common.{sym, subst}
use Rattle.toml.specs.View.{view}
use Rattle.expand_command.specs.Texts.{BreaksRule, IfNamed}
use Rattle.expand_command.proofs.Failures.{unexpanded}
use Rattle.expand_command.proofs.texts.expanded_text_of.Goals as goal

pub returns-in-Ok-clause-text : goal.returns-in-Ok-clause-text
returns-in-Ok-clause-text c = record { version = c.requires; plain = c.in-Ok.ensures.text; fine = c.in-Ok.ensures.kept }

pub returns-in-Err-clause-refused : goal.returns-in-Err-clause-refused
returns-in-Err-clause-refused c =
    let d = view c.args.document.now in
    subst (IfNamed (BreaksRule d)) (sym c.failure_of.ensures) (unexpanded d c.in-Err.error c.requires c.in-Err.ensures.refused)

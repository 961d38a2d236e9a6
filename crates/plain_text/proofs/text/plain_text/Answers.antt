use Rattle.std.proofs.Common.{List, ap, ◌∙◌}
use Rattle.std.proofs.lemmas.List.{take_all}
use Rattle.toml.specs.Parse.{parse_document}
use Rattle.plain_text.specs.declared.line.PlainLine.{PlainLine}
use Rattle.plain_text.specs.Lines.{text_of}
use Rattle.plain_text.proofs.Reading.{reads_as}
use Rattle.plain_text.proofs.text.plain_text.Goals as goal

pub returns-clause-read : goal.returns-clause-read
returns-clause-read c =
    let whole = c.loop-line.invariant ∙ ap (λ (lines : List PlainLine). text_of lines) (take_all c.loop-line.line-index c.args.lines.now c.loop-line-test.false) in
    λ plain. ap parse_document whole ∙ reads_as c.args.lines.now plain

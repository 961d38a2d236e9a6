use Rattle.std.proofs.Common.{arith}
use Rattle.trace.proofs.ShortFields.{label_laid}
use Rattle.trace.proofs.lines.lay_label.Goals as goal

pub returns-clause-laid : goal.returns-clause-laid
returns-clause-laid c =
    label_laid _ c.args.label.now _ c.lay_bytes.result c.args.end c.args.held (omega (arith, c.lay_bytes.ensures.start, c.told-label)) c.requires.label c.told-label c.lay_bytes.ensures.laid

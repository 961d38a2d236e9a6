use Rattle.trace.proofs.ShortFields.{line_laid}
use Rattle.trace.proofs.lines.lay_line.Goals as goal

pub returns-clause-laid : goal.returns-clause-laid
returns-clause-laid c = line_laid c.args.scenario.now c.args.row.now _ _ _ c.lay_fields.ensures.laid c.lay_byte-end.ensures.laid

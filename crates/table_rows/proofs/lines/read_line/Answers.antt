use Rattle.table_rows.proofs.OneLine.{gathered_so}
use Rattle.table_rows.proofs.lines.read_line.Goals as goal

pub returns-in-Ok-add-clause-read : goal.returns-in-Ok-add-clause-read
returns-in-Ok-add-clause-read g c = gathered_so _ _ _ c.in-Ok.ensures.read _ c.in-Ok-add.ensures

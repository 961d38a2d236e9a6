use Rattle.table_rows.proofs.Written.{line_written, row_written}
use Rattle.table_rows.proofs.laws.a_written_line_is_its_runs.Goals as goal

pub returns-clause-genuine : goal.returns-clause-genuine
returns-clause-genuine c key members sweep number p m there is fits own = line_written key members sweep number p m there is fits own

pub returns-clause-read : goal.returns-clause-read
returns-clause-read c key members sweep number p m behind there is fits own = row_written key members sweep number p m there is fits own behind

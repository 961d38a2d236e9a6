use Rattle.windows.proofs.Members.{windows_rows}
use Rattle.windows.proofs.laws.windows_write_the_next_rows.Goals as goal

pub returns : goal.returns
returns c = windows_rows

use Rattle.windows.proofs.Members.{next_rows}
use Rattle.windows.proofs.laws.the_rows_before_a_bound_are_next.Goals as goal

pub returns : goal.returns
returns c = next_rows

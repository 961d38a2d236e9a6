use Rattle.drawing.proofs.Pushes.{and_then, and_last}
use Rattle.sweep_times.specs.Times.{times_table}
use Rattle.sweep_times.proofs.rows.push_rows.Goals as goal

pub returns : goal.returns
unfolding times_table
returns c = and_last _ _ _ _ c.push_markup.result (and_then _ _ _ c.in_ok-push_heads.ensures c.in_ok-push_rows_of.ensures) c.push_markup.ensures

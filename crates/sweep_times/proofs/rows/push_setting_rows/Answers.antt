use Rattle.drawing.proofs.Pushes.{and_last}
use Rattle.sweep_times.specs.Times.{setting_rows}
use Rattle.sweep_times.proofs.rows.push_setting_rows.Goals as goal

pub returns : goal.returns
unfolding setting_rows
returns c = and_last _ _ _ _ c.push_never_row.result c.in_ok-push_bin_rows.ensures c.push_never_row.ensures

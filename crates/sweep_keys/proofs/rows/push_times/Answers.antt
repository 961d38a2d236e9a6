use Rattle.drawing.proofs.Pushes.{and_then, and_last}
use Rattle.sweep_keys.specs.Keys.{times_of}
use Rattle.sweep_keys.proofs.rows.push_times.Goals as goal

pub returns : goal.returns
unfolding times_of
returns c = and_last _ _ _ _ c.push_time_cell-2.result (and_then _ _ _ (and_then _ _ _ (and_then _ _ _ c.in_ok-push_drawn_times.ensures c.in_ok-push_drawn_times-2.ensures) c.in_ok-push_time_cell.ensures) c.in_ok-push_drawn_times-3.ensures) c.push_time_cell-2.ensures

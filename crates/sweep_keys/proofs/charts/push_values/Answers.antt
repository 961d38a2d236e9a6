use Rattle.drawing.proofs.Pushes.{and_then}
use Rattle.sweep_keys.specs.Keys.{values_under}
use Rattle.sweep_keys.proofs.charts.push_values.Goals as goal

pub returns : goal.returns
unfolding values_under
returns c = and_then _ _ _ (and_then _ _ _ c.in_ok-push_markup.ensures c.in_ok-push_all_values.ensures) c.in_ok-push_markup-2.ensures

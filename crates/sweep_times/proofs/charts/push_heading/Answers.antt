use Rattle.drawing.proofs.Pushes.{and_then}
use Rattle.sweep_times.specs.Charts.{chart_heading}
use Rattle.sweep_times.proofs.charts.push_heading.Goals as goal

pub returns : goal.returns
unfolding chart_heading
returns c = and_then _ _ _ (and_then _ _ _ (and_then _ _ _ (and_then _ _ _ c.in_ok-push_markup.ensures c.in_ok-push_number.ensures) c.in_ok-push_markup-2.ensures) c.in_ok-push_swept_keys_at.ensures) c.in_ok-push_markup-3.ensures

use Rattle.std.proofs.Common.{append_assoc, refl}
use Rattle.run_spread.specs.Spread.{chart_opening}
use Rattle.run_spread.proofs.spread.open_chart.Goals as goal

pub returns : goal.returns
unfolding chart_opening
returns c = simp (c.in_ok-open_shapes.ensures, c.in_ok-push_up.ensures, c.in_ok-push_str.ensures.bytes, append_assoc) refl

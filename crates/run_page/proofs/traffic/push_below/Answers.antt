use Rattle.std.proofs.Common.{append_assoc, refl}
use Rattle.run_page.specs.Traffic.{below_plot}
use Rattle.run_page.proofs.traffic.push_below.Goals as goal

pub returns : goal.returns
unfolding below_plot
returns c = simp (c.in_ok-push_width.ensures, c.in_ok-push_time_axis.ensures, c.in_ok-close_plot.ensures, append_assoc) refl

use Rattle.std.proofs.Common.{append_assoc, refl}
use Rattle.run_page.specs.Traffic.{lost_plot}
use Rattle.run_page.proofs.traffic.push_lost_plot.Goals as goal

pub returns : goal.returns
unfolding lost_plot
returns c = simp (c.in_ok-push_below.ensures, c.in_ok-push_lost_area.ensures, c.in_ok-open_time_plot.ensures, c.in_ok-push_up.ensures, c.in_ok-push_str.ensures.bytes, append_assoc) refl

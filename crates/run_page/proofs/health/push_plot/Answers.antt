use Rattle.std.proofs.Common.{append_assoc, refl}
use Rattle.run_page.specs.Health.{health_plot}
use Rattle.run_page.proofs.health.push_plot.Goals as goal

pub returns : goal.returns
unfolding health_plot
returns c = simp (c.in_ok-push_str-2.ensures.bytes, c.in_ok-push_time_axis.ensures, c.in_ok-close_plot.ensures, c.in_ok-push_areas.ensures, c.in_ok-open_time_plot.ensures, c.in_ok-push_up.ensures, c.in_ok-push_str.ensures.bytes, append_assoc) refl

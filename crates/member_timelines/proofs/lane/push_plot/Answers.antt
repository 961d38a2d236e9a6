use Rattle.std.proofs.Common.{append_assoc, refl}
use Rattle.member_timelines.specs.Lanes.{lane_plot}
use Rattle.member_timelines.proofs.lane.push_plot.Goals as goal

pub returns : goal.returns
unfolding lane_plot
returns c = simp (c.in_ok-close_plot.ensures, c.in_ok-push_marks.ensures, c.in_ok-push_areas.ensures, c.in_ok-push_bands.ensures, c.in_ok-open_lane_of.ensures, append_assoc) refl

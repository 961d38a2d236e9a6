use Rattle.std.proofs.Common.{append_assoc, refl}
use Rattle.member_timelines.specs.Lanes.{lane_opening}
use Rattle.member_timelines.proofs.lane.open_lane.Goals as goal

pub returns : goal.returns
unfolding lane_opening
returns c = simp (c.in_ok-open_lane_plot.ensures, c.in_ok-push_str-2.ensures.bytes, c.in_ok-push_escaped.ensures, c.in_ok-push_str.ensures.bytes, append_assoc) refl

use Rattle.std.proofs.Common.{append_assoc, refl}
use Rattle.member_timelines.specs.LaneTable.{lane_axis}
use Rattle.member_timelines.proofs.lanes.push_axis.Goals as goal

pub returns : goal.returns
unfolding lane_axis
returns c = simp (c.in_ok-push_str-2.ensures.bytes, c.in_ok-push_time_axis.ensures, c.in_ok-push_str.ensures.bytes, append_assoc) refl

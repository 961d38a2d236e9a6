use Rattle.std.proofs.Common.{append_assoc, refl}
use Rattle.member_timelines.specs.Lanes.{lane}
use Rattle.member_timelines.proofs.lane.push_lane.Goals as goal

pub returns : goal.returns
unfolding lane
returns c = simp (c.in_ok-push_str-2.ensures.bytes, c.in_ok-push_told.ensures, c.in_ok-push_str.ensures.bytes, c.in_ok-push_plot.ensures, append_assoc) refl

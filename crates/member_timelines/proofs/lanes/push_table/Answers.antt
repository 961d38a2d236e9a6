use Rattle.std.proofs.Common.{append_assoc, refl}
use Rattle.member_timelines.specs.LaneTable.{lane_table}
use Rattle.member_timelines.proofs.lanes.push_table.Goals as goal

pub returns : goal.returns
unfolding lane_table
returns c = simp (c.in_ok-push_str-3.ensures.bytes, c.in_ok-push_each_rows.ensures, c.in_ok-push_str-2.ensures.bytes, c.in_ok-push_str.ensures.bytes, append_assoc) refl

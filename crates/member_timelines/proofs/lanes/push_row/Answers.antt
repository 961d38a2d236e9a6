use Rattle.std.proofs.Common.{append_assoc, refl}
use Rattle.member_timelines.specs.LaneTable.{table_row}
use Rattle.member_timelines.proofs.lanes.push_row.Goals as goal

pub returns : goal.returns
unfolding table_row
returns c = simp (c.in_ok-write.ensures.bytes, c.in_ok-push_moment_alone.ensures, c.in_ok-push_str-2.ensures.bytes, c.in_ok-push_escaped.ensures, c.in_ok-push_str.ensures.bytes, append_assoc) refl

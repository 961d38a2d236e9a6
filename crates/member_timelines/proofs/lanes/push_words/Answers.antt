use Rattle.std.proofs.Common.{append_assoc, refl}
use Rattle.member_timelines.specs.LaneTable.{lane_words}
use Rattle.member_timelines.proofs.lanes.push_words.Goals as goal

pub returns : goal.returns
unfolding lane_words
returns c = simp (c.width.ensures.value, c.in_ok-push_column.ensures, c.in_ok-push_str-2.ensures.bytes, c.in_ok-push_legend_of.ensures, c.in_ok-push_str.ensures.bytes, append_assoc) refl

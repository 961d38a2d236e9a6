use Rattle.std.proofs.Common.{append_assoc, refl}
use Rattle.member_timelines.specs.LaneTable.{column_words}
use Rattle.member_timelines.proofs.lanes.push_column.Goals as goal

pub returns : goal.returns
unfolding column_words
returns c = simp (c.in_ok-push_str-3.ensures.bytes, c.in_ok-push_lasting.ensures, c.in_ok-push_str-2.ensures.bytes, c.by_number.ensures, c.in_ok-push_grouped.ensures, c.in_ok-push_str.ensures.bytes, append_assoc) refl

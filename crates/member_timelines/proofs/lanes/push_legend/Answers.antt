use Rattle.std.proofs.Common.{append_assoc, refl}
use Rattle.member_timelines.specs.LaneTable.{lane_legend}
use Rattle.member_timelines.proofs.lanes.push_legend.Goals as goal

pub returns : goal.returns
unfolding lane_legend
returns c = simp (c.in_ok-push_entry_where-2.ensures, c.in_ok-push_pause_entry.ensures, c.in_ok-push_entry_where.ensures, c.in_ok-push_entry-2.ensures, c.in_ok-push_entry.ensures, append_assoc) refl

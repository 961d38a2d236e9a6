use Rattle.std.proofs.Common.{append_assoc, refl}
use Rattle.member_timelines.specs.ThrownOut.{columns}
use Rattle.member_timelines.proofs.thrown_out.push_head.Goals as goal

pub returns : goal.returns
unfolding columns
returns c = simp (c.in_ok-push_str-3.ensures.bytes, c.in_ok-push_str-2.ensures.bytes, c.in_ok-push_str.ensures.bytes, append_assoc) refl

use Rattle.std.proofs.Common.{append_assoc, refl}
use Rattle.member_timelines.specs.Told.{found_at}
use Rattle.member_timelines.proofs.told.push_found_at.Goals as goal

pub returns : goal.returns
unfolding found_at
returns c = simp (c.in_ok-push_timed.ensures, c.in_ok-push_str.ensures.bytes, append_assoc) refl

use Rattle.std.proofs.Common.{append_assoc, refl}
use Rattle.drive_events.specs.Start.{members_text}
use Rattle.drive_events.proofs.start.push_members.Goals as goal

pub returns : goal.returns
unfolding members_text
returns c = simp (c.in_ok-push_names.ensures, c.as_slice.ensures.value, c.in_ok-members.ensures.all, c.in_ok-push_str.ensures.bytes, append_assoc) refl

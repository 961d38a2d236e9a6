use Rattle.std.proofs.Common.{append_assoc, refl}
use Rattle.drive_events.specs.Line.{held_text}
use Rattle.drive_events.proofs.line.push_held.Goals as goal

pub returns : goal.returns
unfolding held_text
returns c = simp (c.in_ok-extend_from_slice-2.ensures.items, c.as_slice.ensures, c.in_ok-extend_from_slice.ensures.items, append_assoc) refl

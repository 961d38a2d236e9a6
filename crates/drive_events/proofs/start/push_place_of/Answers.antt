use Rattle.std.proofs.Common.{append_assoc}
use Rattle.drive_events.specs.Start.{place_text}
use Rattle.drive_events.proofs.start.push_place_of.Goals as goal

pub returns : goal.returns
unfolding place_text
returns c = simp append_assoc c.write.ensures.bytes

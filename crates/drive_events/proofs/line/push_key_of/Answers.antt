use Rattle.std.proofs.Common.{append_assoc}
use Rattle.drive_events.specs.Line.{key_of}
use Rattle.drive_events.proofs.line.push_key_of.Goals as goal

pub returns : goal.returns
unfolding key_of
returns c = simp append_assoc c.write.ensures.bytes

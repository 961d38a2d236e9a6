use Rattle.std.proofs.Common.{append_assoc}
use Rattle.drive_events.specs.Line.{word_text}
use Rattle.drive_events.proofs.line.push_word.Goals as goal

pub returns : goal.returns
unfolding word_text
returns c = simp append_assoc c.write.ensures.bytes

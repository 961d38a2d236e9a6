use Rattle.std.proofs.Common.{append_assoc}
use Rattle.meaning_text.specs.Lines.{queue_text}
use Rattle.meaning_text.proofs.times.push_queue_text.Goals as goal

pub returns : goal.returns
unfolding queue_text
returns c = simp append_assoc c.writeln.ensures.bytes

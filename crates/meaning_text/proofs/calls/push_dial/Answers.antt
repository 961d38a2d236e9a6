use Rattle.std.proofs.Common.{append_assoc}
use Rattle.meaning_text.specs.Lines.{dial_line}
use Rattle.meaning_text.proofs.calls.push_dial.Goals as goal

pub returns : goal.returns
unfolding dial_line
returns c = simp append_assoc c.writeln.ensures.bytes

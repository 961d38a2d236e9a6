use Rattle.std.proofs.Common.{append_assoc}
use Rattle.meaning_text.specs.Lines.{stream_line}
use Rattle.meaning_text.proofs.calls.push_stream.Goals as goal

pub returns : goal.returns
unfolding stream_line
returns c = simp append_assoc c.writeln.ensures.bytes

use Rattle.std.proofs.Common.{append_assoc}
use Rattle.meaning_text.specs.Lines.{serf_text}
use Rattle.meaning_text.proofs.calls.push_serf_text.Goals as goal

pub returns : goal.returns
unfolding serf_text
returns c = simp append_assoc c.writeln.ensures.bytes

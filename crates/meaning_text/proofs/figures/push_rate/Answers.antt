use Rattle.std.proofs.Common.{append_assoc}
use Rattle.meaning_text.specs.Lines.{rate_line}
use Rattle.meaning_text.proofs.figures.push_rate.Goals as goal

pub returns : goal.returns
unfolding rate_line
returns c = simp append_assoc c.writeln.ensures.bytes

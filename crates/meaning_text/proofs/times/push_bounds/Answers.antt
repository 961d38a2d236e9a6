use Rattle.std.proofs.Common.{append_assoc}
use Rattle.meaning_text.specs.Lines.{bounds_line}
use Rattle.meaning_text.proofs.times.push_bounds.Goals as goal

pub returns : goal.returns
unfolding bounds_line
returns c = simp append_assoc c.writeln.ensures.bytes

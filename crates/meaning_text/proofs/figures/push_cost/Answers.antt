use Rattle.std.proofs.Common.{append_assoc}
use Rattle.meaning_text.specs.Lines.{cost_line}
use Rattle.meaning_text.proofs.figures.push_cost.Goals as goal

pub returns : goal.returns
unfolding cost_line
returns c = simp append_assoc c.writeln.ensures.bytes

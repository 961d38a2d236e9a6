use Rattle.std.proofs.Common.{append_assoc}
use Rattle.meaning_text.specs.Lines.{gossip_text}
use Rattle.meaning_text.proofs.times.push_gossip_text.Goals as goal

pub returns : goal.returns
unfolding gossip_text
returns c = simp append_assoc c.writeln.ensures.bytes

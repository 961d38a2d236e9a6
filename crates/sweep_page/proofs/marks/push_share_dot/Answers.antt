use Rattle.std.proofs.Common.{append_assoc}
use Rattle.sweep_page.specs.Front.{share_dot}
use Rattle.sweep_page.proofs.marks.push_share_dot.Goals as goal

pub returns : goal.returns
unfolding share_dot
returns c = simp append_assoc c.write.ensures.bytes

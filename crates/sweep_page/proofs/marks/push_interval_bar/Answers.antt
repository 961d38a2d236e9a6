use Rattle.std.proofs.Common.{append_assoc}
use Rattle.sweep_page.specs.Front.{interval_bar}
use Rattle.sweep_page.proofs.marks.push_interval_bar.Goals as goal

pub returns : goal.returns
unfolding interval_bar
returns c = simp append_assoc c.write.ensures.bytes

use Rattle.std.proofs.Common.{append_assoc}
use Rattle.drawing.proofs.shapes.push_box.Goals as goal

pub returns : goal.returns
returns c = simp append_assoc c.write.ensures.bytes

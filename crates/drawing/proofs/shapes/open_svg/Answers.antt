use Rattle.std.proofs.Common.{append_assoc}
use Rattle.drawing.specs.Shapes.{svg_opening}
use Rattle.drawing.proofs.shapes.open_svg.Goals as goal

pub returns : goal.returns
unfolding svg_opening
returns c = simp append_assoc c.write.ensures.bytes

use Rattle.std.proofs.Common.{◌≡◌, map, drop, max}
use Rattle.sweep_plan.specs.Values.{value_text}
use Rattle.sweep.specs.Texts.{longest, column_width}
use Rattle.sweep.proofs.texts.width.Given as goal

-- with the values that are left it is the width
abbrev pub invariant-loop-value : goal.invariant-loop-value
invariant-loop-value l = max l.width (longest (map value_text (drop l.value-index l.value-items))) ≡ column_width l.swept

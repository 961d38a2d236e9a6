use Rattle.std.proofs.Common.{◌≡◌, map, string_bytes, take}
use Rattle.std.specs.List.{join_with_byte}
use Rattle.sweep_plan.specs.Axes.{value_at}
use Rattle.sweep_plan.specs.Values.{value_text}
use Rattle.sweep_plan.specs.Sweep.{KeyValues}
use Rattle.sweep_plan.proofs.telling.values_text.Given as goal

abbrev pub invariant-loop-place : goal.invariant-loop-place
invariant-loop-place l = string_bytes l.text ≡ join_with_byte 43 (map (λ (s : KeyValues). value_text (value_at s l.at)) (take l.place l.axis))

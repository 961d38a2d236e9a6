use Rattle.std.proofs.Common.{◌≡◌, map, string_bytes, take}
use Rattle.std.specs.List.{join_with_byte}
use Rattle.sweep_plan.specs.Keys.{key_name}
use Rattle.sweep_plan.specs.Sweep.{KeyValues}
use Rattle.sweep_plan.proofs.telling.names_text.Given as goal

abbrev pub invariant-loop-place : goal.invariant-loop-place
invariant-loop-place l = string_bytes l.text ≡ join_with_byte 43 (map (λ (s : KeyValues). key_name s.key) (take l.place l.axis))

use Rattle.std.proofs.Common.{◌≡◌, ◌++◌, map, string_bytes, take}
use Rattle.std.specs.List.{join_with_byte, range_with_len}
use Rattle.sweep_plan.specs.Axes.{place_count}
use Rattle.sweep_plan.specs.Asked.{values_text}
use Rattle.sweep_plan.proofs.telling.push_rows.Given as goal

abbrev pub invariant-loop-place : goal.invariant-loop-place
invariant-loop-place l = string_bytes l.text ≡ string_bytes l.fn.text ++ join_with_byte 44 (map (values_text l.axis) (take l.place (range_with_len 0 (place_count l.axis))))

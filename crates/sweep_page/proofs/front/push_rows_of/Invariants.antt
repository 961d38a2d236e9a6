use Rattle.std.proofs.Common.{◌≡◌, ◌++◌, string_bytes, take}
use Rattle.std.specs.List.{flat_map}
use Rattle.sweep_page.specs.Front.{front_row_of}
use Rattle.sweep_page.proofs.front.push_rows_of.Given as goal

abbrev pub invariant-loop-point : goal.invariant-loop-point
invariant-loop-point l = string_bytes l.text ≡ string_bytes l.fn.text ++ flat_map (front_row_of l.time l.crashed l.plan.swept_keys l.settings) (take l.point-index l.points)

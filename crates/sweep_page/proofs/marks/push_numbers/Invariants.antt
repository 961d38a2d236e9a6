use Rattle.std.proofs.Common.{◌≡◌, ◌++◌, string_bytes, take}
use Rattle.std.specs.List.{flat_map}
use Rattle.sweep_page.specs.Front.{number_mark}
use Rattle.sweep_page.proofs.marks.push_numbers.Given as goal

abbrev pub invariant-loop-point : goal.invariant-loop-point
invariant-loop-point l = string_bytes l.text ≡ string_bytes l.fn.text ++ flat_map (number_mark l.reach) (take l.point-index l.points)

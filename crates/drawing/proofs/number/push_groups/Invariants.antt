use Rattle.std.proofs.Common.{◌≡◌, ◌++◌, take}
use Rattle.std.specs.List.{flat_map}
use Rattle.std.specs.String.{string_bytes}
use Rattle.drawing.specs.Numbers.{digit_group}
use Rattle.drawing.proofs.number.push_groups.Given as goal

-- the groups so far
abbrev pub invariant-loop-group : goal.invariant-loop-group
invariant-loop-group l = string_bytes l.text ≡ string_bytes l.fn.text ++ flat_map (digit_group l.number) (take l.group-index l.group-items)

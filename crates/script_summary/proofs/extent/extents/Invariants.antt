use Rattle.std.proofs.Common.{◌≡◌, map, take}
use Rattle.std.specs.List.{range_with_len}
use Rattle.script_summary.specs.Extents.{extent_at}
use Rattle.script_summary.proofs.extent.extents.Given as goal

-- those so far are counted
abbrev pub invariant-loop-it : goal.invariant-loop-it
invariant-loop-it l = l.made.items ≡ map (extent_at (take l.it-index l.all)) (range_with_len 0 l.count)

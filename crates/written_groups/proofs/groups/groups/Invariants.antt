use Rattle.std.proofs.Common.{map, take}
use Rattle.std.specs.List.{AllZip}
use Rattle.toml.specs.View.{view}
use Rattle.written_groups.specs.Groups.{IsGroupIn}
use Rattle.written_groups.proofs.groups.groups.Given as goal

-- those of the items so far
abbrev pub invariant-loop-item : goal.invariant-loop-item
invariant-loop-item l = AllZip (IsGroupIn l.tick) (map view (take l.item-index l.items)) l.made.items

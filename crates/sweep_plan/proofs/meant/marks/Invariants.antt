use Rattle.std.proofs.Common.{◌≡◌, map, take}
use Rattle.std.specs.List.{count_by}
use Rattle.toml.specs.View.{view}
use Rattle.sweep_plan.specs.Items.{name_of_item}
use Rattle.sweep_plan.specs.Meant.{marks_of}
use Rattle.sweep_plan.specs.Numbered.{is_stem}
use Rattle.sweep_plan.proofs.meant.marks.Given as goal

abbrev pub invariant-loop-item : goal.invariant-loop-item
invariant-loop-item l = record {
  found : l.found ≡ count_by (is_stem l.cut) (map name_of_item (map view (take l.item-index l.items)));
  marks : l.marks.items ≡ marks_of l.name (map view (take l.item-index l.items));
}

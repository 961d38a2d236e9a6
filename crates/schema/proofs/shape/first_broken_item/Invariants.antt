use Rattle.std.proofs.Common.{◌≡◌, false, take}
use Rattle.std.specs.List.{list_any}
use Rattle.toml.specs.View.{view}
use Rattle.schema.specs.Tree.{section_table}
use Rattle.schema.specs.Shape.{table_breaks}
use Rattle.schema.proofs.shape.first_broken_item.Given as goal

abbrev pub invariant-loop-i : goal.invariant-loop-i
invariant-loop-i l = list_any (λ v. table_breaks l.version l.check (section_table l.section (view v))) (take l.i l.items) ≡ false

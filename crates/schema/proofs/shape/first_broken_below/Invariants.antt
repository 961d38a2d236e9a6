use Rattle.std.proofs.Common.{◌≡◌, false, take}
use Rattle.std.specs.List.{list_any}
use Rattle.toml.specs.View.{view}
use Rattle.schema.specs.Tree.{tables_below}
use Rattle.schema.specs.Shape.{table_breaks}
use Rattle.schema.proofs.shape.first_broken_below.Given as goal

abbrev pub invariant-loop-row : goal.invariant-loop-row
invariant-loop-row l = list_any (λ row. list_any (table_breaks l.version l.check) (tables_below (view l.tree) row)) (take l.row-index l.rows) ≡ false

use Rattle.toml.specs.View.{view}
use Rattle.written_schema.specs.Shape.{IsTableRule}
use Rattle.written_schema.proofs.Lowest.{IsLowSoFar}
use Rattle.written_schema.proofs.shape.items_rule.Given as goal

abbrev pub invariant-loop-item : goal.invariant-loop-item
invariant-loop-item l = IsLowSoFar ((λ v. IsTableRule l.tick l.section (view v))) l.items l.low l.item-index

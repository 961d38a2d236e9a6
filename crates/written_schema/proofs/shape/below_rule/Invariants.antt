use Rattle.toml.specs.View.{view}
use Rattle.written_schema.specs.Shape.{IsBelowRule}
use Rattle.written_schema.proofs.Lowest.{IsLowSoFar}
use Rattle.written_schema.proofs.shape.below_rule.Given as goal

abbrev pub invariant-loop-row : goal.invariant-loop-row
invariant-loop-row l = IsLowSoFar (IsBelowRule l.tick (view l.document)) l.rows l.low l.row-index

use Rattle.toml.specs.View.{view}
use Rattle.written_schema.specs.Shape.{IsRowRule}
use Rattle.written_schema.proofs.Lowest.{IsLowSoFar}
use Rattle.written_schema.proofs.shape.keys_rule.Given as goal

abbrev pub invariant-loop-row : goal.invariant-loop-row
invariant-loop-row l = IsLowSoFar (IsRowRule l.tick (view l.table)) l.rows l.low l.row-index

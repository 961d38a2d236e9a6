use Rattle.toml.specs.View.{view}
use Rattle.written_schema.specs.References.{IsPathRule}
use Rattle.written_schema.proofs.Lowest.{IsLowSoFar}
use Rattle.written_schema.proofs.references.paths_rule.Given as goal

abbrev pub invariant-loop-path : goal.invariant-loop-path
invariant-loop-path l = IsLowSoFar (λ v. IsPathRule l.roster (view v)) l.paths l.low l.path-index

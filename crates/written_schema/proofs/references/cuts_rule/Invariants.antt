use Rattle.toml.specs.View.{view}
use Rattle.written_schema.specs.References.{IsCutRule}
use Rattle.written_schema.proofs.Lowest.{IsLowSoFar}
use Rattle.written_schema.proofs.references.cuts_rule.Given as goal

abbrev pub invariant-loop-cut : goal.invariant-loop-cut
invariant-loop-cut l = IsLowSoFar (λ v. IsCutRule l.tick l.roster (view v)) l.cuts l.low l.cut-index

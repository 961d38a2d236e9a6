use Rattle.toml.specs.View.{view}
use Rattle.written_schema.specs.References.{IsContactRule}
use Rattle.written_schema.proofs.Lowest.{IsLowSoFar}
use Rattle.written_schema.proofs.references.contacts_rule.Given as goal

abbrev pub invariant-loop-group : goal.invariant-loop-group
invariant-loop-group l = IsLowSoFar (λ v. IsContactRule l.tick l.roster (view v)) l.groups l.low l.group-index

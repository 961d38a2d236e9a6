use Rattle.std.proofs.Common.{◌≡◌, drop}
use Rattle.toml.specs.View.{view}
use Rattle.sweep_plan.specs.Missing.{missing_of}
use Rattle.sweep_plan.proofs.missing.missing_item.Given as goal

abbrev pub invariant-loop-swept : goal.invariant-loop-swept
invariant-loop-swept l = missing_of (view l.document) l.swept_keys ≡ missing_of (view l.document) (drop l.swept-index l.swept_keys)

use Rattle.std.proofs.Common.{◌≡◌, true}
use Rattle.diagnostics.specs.Told.{are_from}
use Rattle.diagnostics.proofs.telling.from_rule.Given as goal

abbrev pub invariant-loop-diagnostic : goal.invariant-loop-diagnostic
invariant-loop-diagnostic l = are_from l.rule l.list.items ≡ true

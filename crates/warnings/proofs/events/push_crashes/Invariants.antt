use Rattle.std.proofs.Common.{◌≡◌, ◌++◌}
use Rattle.warnings.specs.Told.{crashes_below}
use Rattle.warnings.proofs.events.push_crashes.Given as goal

abbrev pub invariant-loop-member : goal.invariant-loop-member
invariant-loop-member l = l.told.items ≡ l.fn.told.items ++ crashes_below l.scenario l.member

use Rattle.std.proofs.Common.{◌≡◌}
use Rattle.std.specs.List.{list_any, range_with_len}
use Rattle.warnings.specs.Conditions.{is_moved}
use Rattle.warnings.proofs.run.is_somebody_moved.Given as goal

-- one of the members so far
abbrev pub invariant-loop-member : goal.invariant-loop-member
invariant-loop-member l = l.moved ≡ list_any (is_moved l.scenario) (range_with_len 0 l.member)

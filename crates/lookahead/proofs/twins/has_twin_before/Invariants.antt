use Rattle.std.proofs.Common.{◌≤◌}
use Rattle.lookahead.proofs.twins.has_twin_before.Given as goal

abbrev pub invariant-loop-earlier : goal.invariant-loop-earlier
invariant-loop-earlier l = l.earlier ≤ l.member

abbrev pub decreases-loop-earlier : goal.decreases-loop-earlier
decreases-loop-earlier l = l.earlier

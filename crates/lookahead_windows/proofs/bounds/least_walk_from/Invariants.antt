use Rattle.lookahead_windows.specs.Walks.{IsLeastWalkAmong, IsFrom}
use Rattle.lookahead_windows.proofs.bounds.least_walk_from.Given as goal

abbrev pub invariant-loop-to : goal.invariant-loop-to
invariant-loop-to l = record { least : IsLeastWalkAmong l.horizons (IsFrom l.from l.to) l.least }

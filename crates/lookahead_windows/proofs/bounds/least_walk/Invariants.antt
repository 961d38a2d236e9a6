use Rattle.lookahead_windows.specs.Walks.{IsLeastWalkAmong, AreBelow}
use Rattle.lookahead_windows.proofs.bounds.least_walk.Given as goal

abbrev pub invariant-loop-from : goal.invariant-loop-from
invariant-loop-from l = record { least : IsLeastWalkAmong l.horizons (AreBelow l.from l.horizons.parts) l.least }

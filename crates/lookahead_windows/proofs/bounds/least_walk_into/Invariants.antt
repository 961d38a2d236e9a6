use Rattle.lookahead_windows.specs.Walks.{IsLeastWalkAmong, IsInto}
use Rattle.lookahead_windows.proofs.bounds.least_walk_into.Given as goal

abbrev pub invariant-loop-from : goal.invariant-loop-from
invariant-loop-from l = record { least : IsLeastWalkAmong l.walks (IsInto l.from l.to) l.least }

use Rattle.std.proofs.Common.{◌≡◌, ◌++◌, map, take}
use Rattle.incidents.specs.Cluster.{slow_trouble}
use Rattle.incidents.proofs.cluster.push_slows.Given as goal

-- those so far are added
abbrev pub invariant-loop-slow : goal.invariant-loop-slow
invariant-loop-slow l = l.troubles.items ≡ l.fn.troubles.items ++ map slow_trouble (take l.slow-index l.slows)

use Rattle.std.proofs.Common.{◌≡◌, ◌++◌, map, take}
use Rattle.incidents.specs.Cluster.{pause_trouble}
use Rattle.incidents.proofs.cluster.push_pauses.Given as goal

-- those so far are added
abbrev pub invariant-loop-pause : goal.invariant-loop-pause
invariant-loop-pause l = l.troubles.items ≡ l.fn.troubles.items ++ map pause_trouble (take l.pause-index l.pauses)

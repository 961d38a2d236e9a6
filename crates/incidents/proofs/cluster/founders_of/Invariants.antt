use Rattle.std.proofs.Common.{◌≡◌, map}
use Rattle.incidents.specs.Lives.{members}
use Rattle.incidents.specs.Cluster.{starts_first}
use Rattle.incidents.proofs.cluster.founders_of.Given as goal

-- those so far are listed
abbrev pub invariant-loop-place : goal.invariant-loop-place
invariant-loop-place l = l.founders.items ≡ map (starts_first l.scenario) (members l.place)

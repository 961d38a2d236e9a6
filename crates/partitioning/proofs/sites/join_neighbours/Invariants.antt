use Rattle.std.proofs.Common.{take}
use Rattle.partitioning.specs.Sites.{AreSiteNumbers, IsJoined}
use Rattle.partitioning.proofs.sites.join_neighbours.Given as goal

-- the site of this member's group was joined with those of its neighbours among those so far
abbrev pub invariant-loop-other : goal.invariant-loop-other
invariant-loop-other l = AreSiteNumbers l.sites × IsJoined l.cluster.scenario.now l.ticks (take l.other-index l.firsts) l.first l.initial.sites l.sites

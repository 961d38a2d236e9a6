use Rattle.std.proofs.Common.{take}
use Rattle.partitioning.specs.Sites.{AreJoined, AreSiteNumbers}
use Rattle.partitioning.proofs.sites.sites_of_groups.Given as goal

-- the groups of those so far are joined with their neighbours
abbrev pub invariant-loop-first : goal.invariant-loop-first
invariant-loop-first l = AreSiteNumbers l.sites.items × AreJoined l.cluster.scenario.now l.ticks l.firsts (take l.first-index l.firsts) l.sites.items

use Rattle.partitioning.proofs.Firsts.{StandSoFar}
use Rattle.partitioning.proofs.sites.first_members.Given as goal

-- the groups of the members so far, and the last one, are stood for
abbrev pub invariant-loop-member : goal.invariant-loop-member
invariant-loop-member l = StandSoFar l.scenario l.firsts.items l.member l.last

use Rattle.std.proofs.Common.{◌≡◌}
use Rattle.partitioning.proofs.Joining.{joined_below}
use Rattle.partitioning.proofs.sites.join.Given as goal

-- the groups so far have their new site, the others that of before
abbrev pub invariant-loop-site : goal.invariant-loop-site
invariant-loop-site l = l.sites ≡ joined_below l.kept l.gone l.initial.sites l.site-index

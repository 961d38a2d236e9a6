use Rattle.std.proofs.Common.{◌≡◌, None, take, filter}
use Rattle.std.specs.List.{last_or}
use Rattle.false_deaths.specs.Troubles.{cuts_in}
use Rattle.false_deaths.proofs.troubles.last_cut.Given as goal

-- the last of those so far
abbrev pub invariant-loop-cut : goal.invariant-loop-cut
invariant-loop-cut l = l.found ≡ last_or None (filter (cuts_in l.group l.first l.last) (take l.cut-index l.cuts))

use Rattle.std.proofs.Common.{◌≡◌, None, take, filter}
use Rattle.std.specs.List.{last_or}
use Rattle.false_deaths.specs.Troubles.{slows_in}
use Rattle.false_deaths.proofs.troubles.last_slow.Given as goal

-- the last of those so far
abbrev pub invariant-loop-slow : goal.invariant-loop-slow
invariant-loop-slow l = l.found ≡ last_or None (filter (slows_in l.member l.first l.last) (take l.slow-index l.slows))

use Rattle.std.proofs.Common.{◌≡◌, None, take, filter}
use Rattle.std.specs.List.{last_or}
use Rattle.false_deaths.specs.Troubles.{pauses_in}
use Rattle.false_deaths.proofs.troubles.last_pause.Given as goal

-- the last of those so far
abbrev pub invariant-loop-pause : goal.invariant-loop-pause
invariant-loop-pause l = l.found ≡ last_or None (filter (pauses_in l.member l.first l.last) (take l.pause-index l.pauses))

use Rattle.std.proofs.Common.{◌≡◌, map, take, Some}
use Rattle.plain_entries.specs.Departures.{gone_at}
use Rattle.plain_entries.proofs.departures.departures_at.Given as goal

-- a departure is made at each moment so far
abbrev pub invariant-loop-moment : goal.invariant-loop-moment
invariant-loop-moment l = l.made.items ≡ map (gone_at (Some l.back)) (take l.moment-index l.moments)

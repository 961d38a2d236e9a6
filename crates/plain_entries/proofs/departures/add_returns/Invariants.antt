use Rattle.std.proofs.Common.{◌≡◌, ◌++◌, take}
use Rattle.plain_entries.specs.Departures.{returns_of}
use Rattle.plain_entries.proofs.departures.add_returns.Given as goal

-- the restarts of those so far are there
abbrev pub invariant-loop-gone : goal.invariant-loop-gone
invariant-loop-gone l = l.restarts.items ≡ l.fn.restarts.items ++ returns_of (take l.gone-index l.departures)

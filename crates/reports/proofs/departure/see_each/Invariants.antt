use Rattle.std.proofs.Common.{◌≡◌, ◌++◌, map, take, drop}
use Rattle.reports.specs.Failures.{departure_with}
use Rattle.reports.proofs.departure.see_each.Given as goal

-- the departures so far have what the row reports, the others are as they were
abbrev pub invariant-loop-departure : goal.invariant-loop-departure
invariant-loop-departure l = l.departures ≡ map (departure_with l.row) (take l.departure-index l.fn.departures) ++ drop l.departure-index l.fn.departures

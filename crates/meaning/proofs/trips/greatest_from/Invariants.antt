use Rattle.std.proofs.Common.{◌≤◌, ◌^◌}
use Rattle.meaning.specs.Trips.{round_trip, IsGreatestFrom}
use Rattle.meaning.proofs.trips.greatest_from.Given as goal

abbrev pub invariant-loop-to : goal.invariant-loop-to
invariant-loop-to l = record { value : IsGreatestFrom (round_trip l.scenario l.from) l.from l.to l.greatest; short : l.greatest ≤ 2 ^ 22 }

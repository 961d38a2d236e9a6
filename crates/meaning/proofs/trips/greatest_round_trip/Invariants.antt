use Rattle.std.proofs.Common.{◌≤◌, ◌^◌}
use Rattle.scenario.specs.Setup.{member_count}
use Rattle.meaning.specs.Trips.{round_trip, IsGreatestBelow}
use Rattle.meaning.proofs.trips.greatest_round_trip.Given as goal

abbrev pub invariant-loop-from : goal.invariant-loop-from
invariant-loop-from l = record { value : IsGreatestBelow (round_trip l.scenario) (member_count l.scenario) l.from l.greatest; short : l.greatest ≤ 2 ^ 22 }

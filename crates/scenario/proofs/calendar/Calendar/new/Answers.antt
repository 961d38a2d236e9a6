use Rattle.std.proofs.Common.{refl, arith}
use Rattle.scenario.specs.Calendar.{Stretches}
use Rattle.scenario.proofs.Noting.{none_noted}
use Rattle.scenario.proofs.calendar.Calendar.new.Goals as goal

pub returns : goal.returns
returns c =
    let made : Stretches = record { shift = c.shift_for-shift.result; owners = c.in_ok-owners.owners.items; unknown = 0 } in
    λ o t early. none_noted made o t c.ticks-end.result (omega (arith, early, c.ticks-end.ensures)) c.in_ok-owners.ensures.all c.in_ok-owners.ensures.empty refl

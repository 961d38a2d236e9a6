use Rattle.std.proofs.Common.{◌≡◌, ◌++◌, map, take, drop}
use Rattle.reports.specs.Away.{absence_with}
use Rattle.reports.proofs.absence.see_each.Given as goal

-- the absences so far have what the row tells, the others are as they were
abbrev pub invariant-loop-absence : goal.invariant-loop-absence
invariant-loop-absence l = l.absences ≡ map (absence_with l.row) (take l.absence-index l.fn.absences) ++ drop l.absence-index l.fn.absences

-- What is kept of members that depart and start again, and of claims that a member failed that isn't away.
use Rattle.std.specs.Prelude.{◌≡◌, ℕ, Bool, true, false, not, ◌&&◌, ◌==◌, List, map, filter, if◌then◌else◌}
use Rattle.std.specs.Option.{option_map_or}
use Rattle.std.specs.List.{list_any}
use Rattle.trace.specs.declared.row.What.{What}
use Rattle.trace.specs.declared.row.What.TheVariants as what
use Rattle.trace.specs.declared.row.Row.{Row}
use Rattle.trace_rows.specs.Rows.{Placed, rows_in_place}
use Rattle.incidents.specs.Lives.{restarts}
use Rattle.reports.specs.declared.absence.Absence.{Absence}
use Rattle.reports.specs.declared.absences.Absences.{Absences}
use Rattle.reports.specs.Departures.{is_departure}
use Rattle.reports.specs.Failures.{departure_with, departure_at}
use Rattle.reports.specs.Absences.{is_over, absence_told, wrongs_of}

-- what is kept of a departure
abbrev pub absence_kept : Placed → Absence
absence_kept p = record { told = absence_told p; is_over = is_over p }

-- what is kept of those of one way
abbrev pub absences_kept : What → List Row → List Absence
absences_kept way rows = map absence_kept (filter (is_departure way) (rows_in_place rows))

-- an absence, with what one row more tells of it: until it is over
abbrev pub absence_with : Row → Absence → Absence
absence_with row a = if a.is_over then a else (if restarts a.told.member row then record a { is_over = true } else record a { told = departure_with row a.told })

-- an absence that begins with a row
abbrev pub absence_at : Row → Absence
absence_at row = record { told = departure_at row; is_over = false }

-- the absence is the member's, and goes on
abbrev pub keeps_away : ℕ → Absence → Bool
keeps_away m a = (a.told.member == m) && not a.is_over

-- the row is about a member that is away
abbrev pub is_about_away : List Absence → Row → Bool
is_about_away absences row = option_map_or (λ about. list_any (keeps_away about) absences) row.about false

-- what is kept is what these rows report
pub record AreAbsencesOf (absences : Absences) (rows : List Row) : Type 0 where
  pub crashed : absences.crashes.items ≡ absences_kept what.Crash rows
  pub left : absences.leaves.items ≡ absences_kept what.Leave rows
  pub suspected : absences.suspicions.items ≡ wrongs_of what.Suspect rows
  pub confirmed : absences.confirmations.items ≡ wrongs_of what.Confirm rows

-- Members that depart and start again, as version 4 of the format has them: what a trace reports of an absence, and the claims that a member failed that isn't away.
use Rattle.std.specs.Prelude.{ℕ, Bool, false, not, ◌&&◌, ◌||◌, ◌==◌, List, [], ◌∷◌, map, filter, if◌then◌else◌}
use Rattle.std.specs.Option.{option_map_or}
use Rattle.std.specs.List.{list_any}
use Rattle.trace.specs.declared.row.What.{What}
use Rattle.trace.specs.declared.row.What.TheVariants as what
use Rattle.trace.specs.declared.row.Row.{Row}
use Rattle.trace_rows.specs.Rows.{Placed, rows_in_place, has_kind, is_about}
use Rattle.incidents.specs.Lives.{restarts}
use Rattle.reports.specs.declared.departure.DepartureReport.{DepartureReport}
use Rattle.reports.specs.declared.false_positives.FalsePositive.{FalsePositive}
use Rattle.reports.specs.Departures.{detection_of, is_departure}
use Rattle.reports.specs.Failures.{false_positive_told}

-- the row as one that confirms a failure
abbrev pub as_confirm : Row → Row
as_confirm row = record row { what = what.Confirm }

-- whoever says that a member left tells of its departure as one that confirms that it failed
abbrev pub with_left : Row → Row
with_left row = if has_kind what.Left row then as_confirm row else row

-- the same of what is said of others: a member that says that it leaves itself confirms nothing
abbrev pub with_others_left : Row → Row
with_others_left row = if is_about row.member row then row else with_left row

-- the rows up to the one with which the member starts again
abbrev pub absence_of : ℕ → List Row → List Row
absence_of m [] = []
absence_of m (row ∷ rows) = if restarts m row then [] else row ∷ absence_of m rows

-- the member of the row starts again behind it
abbrev pub is_over : Placed → Bool
is_over p = list_any (restarts p.row.member) p.later

-- the departure that a row reports: as its detection counts what stands behind it until the member starts again
abbrev pub absence_told : Placed → DepartureReport
absence_told p = record { member = p.row.member; at = p.row.at; detection = detection_of p.row.member (absence_of p.row.member p.later) }

-- the departures of a trace of one way, in its order
abbrev pub absences_of : What → List Row → List DepartureReport
absences_of way rows = map absence_told (filter (is_departure way) (rows_in_place rows))

-- the member departs with the row, and doesn't start again behind it
abbrev pub stays_away : ℕ → Placed → Bool
stays_away m p = (p.row.member == m) && not (is_over p)

-- at the end of these rows the member is away, as it departed in this way
abbrev pub is_away_by : What → List Row → ℕ → Bool
is_away_by way rows m = list_any (stays_away m) (filter (is_departure way) (rows_in_place rows))

-- it is away
abbrev pub is_away : List Row → ℕ → Bool
is_away rows m = is_away_by what.Crash rows m || is_away_by what.Leave rows m

-- the row claims this of a member that isn't away
abbrev pub is_wrong : What → Placed → Bool
is_wrong claim p = has_kind claim p.row && not (option_map_or (is_away p.earlier) p.row.about false)

-- these false claims, in the order of the trace
abbrev pub wrongs_of : What → List Row → List FalsePositive
wrongs_of claim rows = map (λ p. false_positive_told p.row) (filter (is_wrong claim) (rows_in_place rows))

-- What is kept of members that departed, and of claims that a member failed though it had not departed.
use Rattle.std.specs.Prelude.{◌≡◌, ℕ, ◌+◌, Bool, cond, false, ◌==◌, Some, List, [], map, filter}
use Rattle.std.specs.Option.{option_or, option_map_or}
use Rattle.std.specs.List.{list_any}
use Rattle.scenario.specs.Setup.{Setup, extra_of}
use Rattle.trace.specs.declared.row.What.{What}
use Rattle.trace.specs.declared.row.What.TheVariants as what
use Rattle.trace.specs.declared.row.Row.{Row}
pub use Rattle.trace_rows.specs.Moments.{moment_if}
use Rattle.reports.specs.declared.departure.Detection.{Detection}
use Rattle.reports.specs.declared.departure.DepartureReport.{DepartureReport}
use Rattle.reports.specs.declared.false_positives.FalsePositive.{FalsePositive}
use Rattle.reports.specs.declared.failures.Failures.{Failures}
use Rattle.trace_rows.specs.Rows.{rows_in_place, tells_of}
use Rattle.reports.specs.Departures.{detection_of, crashes_of, leaves_of}
use Rattle.reports.specs.FalsePositives.{ways_to_depart, is_false_positive}

-- what is known of a departure, with one moment more: whether the member was suspected then, and whether it was confirmed to have failed
abbrev pub detection_if : Bool → Bool → ℕ → Detection → Detection
detection_if suspects confirms at d =
    record {
      suspect = option_or d.suspect (moment_if suspects at);
      confirm = option_or d.confirm (moment_if confirms at);
      last = cond confirms (Some at) d.last;
      confirmers = d.confirmers + cond confirms 1 0;
    }

-- what is known of a member's departure, with what one row more reports of it
abbrev pub detection_with : ℕ → Row → Detection → Detection
detection_with member row d = detection_if (tells_of what.Suspect member row) (tells_of what.Confirm member row) row.at d

-- a departure, with what one row more reports of it
abbrev pub departure_with : Row → DepartureReport → DepartureReport
departure_with row departure = record { member = departure.member; at = departure.at; detection = detection_with departure.member row departure.detection }

-- the departure that a row reports, before any other row reports of it
abbrev pub departure_at : Row → DepartureReport
departure_at row = record { member = row.member; at = row.at; detection = detection_of row.member [] }

-- the row is about a member that departed
abbrev pub is_about_departed : List DepartureReport → Row → Bool
is_about_departed departures row = option_map_or (λ about. list_any (λ departure. departure.member == about) departures) row.about false

-- what is kept of a row that is a false positive: whose it is, which member it is about, and when
abbrev pub false_positive_told : Row → FalsePositive
false_positive_told row = record { member = row.member; about = row.about; at = row.at }

-- the false positives of a claim, in the order of the trace
abbrev pub false_positives_of : What → List Row → List FalsePositive
false_positives_of claim rows = map (λ p. false_positive_told p.row) (filter (is_false_positive ways_to_depart claim) (rows_in_place rows))

-- whoever made the claim wasn't slow then
abbrev pub is_healthy_maker : Setup → FalsePositive → Bool
is_healthy_maker s claim = extra_of s claim.member claim.at == 0

-- what is kept is what these rows report
pub record AreFailuresOf (failures : Failures) (rows : List Row) : Type 0 where
  pub crashed : failures.crashes.items ≡ crashes_of rows
  pub left : failures.leaves.items ≡ leaves_of rows
  pub suspected : failures.suspicions.items ≡ false_positives_of what.Suspect rows
  pub confirmed : failures.confirmations.items ≡ false_positives_of what.Confirm rows

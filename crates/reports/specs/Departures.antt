-- What a trace reports of the members that depart, by a crash or a leave: who detected it, and how late.
use Rattle.std.specs.Prelude.{ℕ, Bool, ◌-◌, List, map, filter, filter_map, find, count_by, Option, None}
use Rattle.std.specs.Option.{option_map}
use Rattle.std.specs.List.{last_or}
use Rattle.trace.specs.declared.row.What.{What}
use Rattle.trace.specs.declared.row.What.TheVariants as what
use Rattle.trace.specs.declared.row.Row.{Row}
pub use Rattle.trace_rows.specs.Moments.{moment_of}
use Rattle.reports.specs.declared.departure.Detection.{Detection}
use Rattle.reports.specs.declared.departure.DepartureReport.{DepartureReport}
use Rattle.trace_rows.specs.Rows.{Placed, rows_in_place, has_kind, tells_of}

-- what later rows report of a member's departure: when it was first suspected, when first and last confirmed to have failed, and how often
abbrev pub detection_of : ℕ → List Row → Detection
detection_of member later =
    record {
      suspect = moment_of (find (tells_of what.Suspect member) later);
      confirm = moment_of (find (tells_of what.Confirm member) later);
      last = moment_of (last_or None (filter (tells_of what.Confirm member) later));
      confirmers = count_by (tells_of what.Confirm member) later;
    }

-- the departure that a row reports. Only what stands later in the trace counts as its detection
abbrev pub departure_told : Placed → DepartureReport
departure_told p = record { member = p.row.member; at = p.row.at; detection = detection_of p.row.member p.later }

-- the row reports a departure of this way
abbrev pub is_departure : What → Placed → Bool
is_departure way p = has_kind way p.row

-- the departures of a trace of one way, in its order
abbrev pub departures_of : What → List Row → List DepartureReport
departures_of way rows = map departure_told (filter (is_departure way) (rows_in_place rows))

-- the crashes of a trace
abbrev pub crashes_of : List Row → List DepartureReport
crashes_of rows = departures_of what.Crash rows

-- its leaves
abbrev pub leaves_of : List Row → List DepartureReport
leaves_of rows = departures_of what.Leave rows

-- how long it took until a first member confirmed a departure, where one did
abbrev pub latency_of : DepartureReport → Option ℕ
latency_of departure = option_map (λ confirm. confirm - departure.at) departure.detection.confirm

-- the latencies that are there
abbrev pub latencies_of : List DepartureReport → List ℕ
latencies_of departures = filter_map latency_of departures

-- The figures of one run, over the rows of its trace.
use Rattle.std.specs.Prelude.{◌≡◌, ℕ, Bool, false, ◌-◌, ◌==◌, Option, Some, None, List, length, map, count_by, sum_by, min, max, is_some}
use Rattle.std.specs.Option.{option_map, option_map_or}
use Rattle.std.specs.List.{filter_map, list_any, range_with_len, reduce}
use Rattle.schema.specs.declared.schema.Version.{Version}
use Rattle.schema.specs.declared.schema.Version.TheVariants.{One, Two, Three, Four}
use Rattle.scenario.specs.Setup.{Setup, member_count}
use Rattle.trace.specs.declared.row.What.{What}
use Rattle.trace.specs.declared.row.What.TheVariants as what
use Rattle.trace.specs.declared.row.Row.{Row}
use Rattle.reports.specs.declared.departure.DepartureReport.{DepartureReport}
use Rattle.reports.specs.declared.false_positives.FalsePositive.{FalsePositive}
use Rattle.reports.specs.Rows.{count_of, losses_of, worst_health}
use Rattle.reports.specs.Departures.{crashes_of, latencies_of}
use Rattle.reports.specs.FalsePositives.{ways_to_depart, false_positives, healthy_false_positives}
use Rattle.reports.specs.Failures.{false_positives_of, is_healthy_maker}
use Rattle.reports.specs.Absences.{absences_of, with_left, with_others_left, wrongs_of}
use Rattle.reports.specs.Revivals.{revivals}
use Rattle.reports.specs.Text.{message_kinds}
use Rattle.incident_figures.specs.declared.run.RunIncidents.{RunIncidents}
use Rattle.incident_figures.specs.Runs.{incidents_of}
use Rattle.figures.specs.declared.run.RunFigures.{RunFigures}

-- how many ticks after a crash the member was first suspected, where it was
abbrev pub suspected_after : DepartureReport → Option ℕ
suspected_after crash = option_map (λ at. at - crash.at) crash.detection.suspect

-- how many ticks after a crash it was last confirmed to have failed, where it was
abbrev pub last_after : DepartureReport → Option ℕ
last_after crash = option_map (λ at. at - crash.at) crash.detection.last

-- some member confirmed the crash
abbrev pub is_detected : DepartureReport → Bool
is_detected crash = is_some crash.detection.confirm

-- The crashes of a run, as the report of its version tells them: in version 4 each up to its member's restart, and whoever says that another left confirms
-- that it failed.
abbrev pub crashes_told : Version → List Row → List DepartureReport
crashes_told One rows = crashes_of rows
crashes_told Two rows = crashes_of rows
crashes_told Three rows = crashes_of rows
crashes_told Four rows = absences_of what.Crash (map with_others_left rows)

-- the false claims, likewise: in version 4 those of members that aren't away
abbrev pub claims_told : Version → What → List Row → List FalsePositive
claims_told One claim rows = false_positives_of claim rows
claims_told Two claim rows = false_positives_of claim rows
claims_told Three claim rows = false_positives_of claim rows
claims_told Four claim rows = wrongs_of claim (map with_others_left rows)

-- how many there are
abbrev pub claim_count : Version → What → List Row → ℕ
claim_count One claim rows = false_positives ways_to_depart claim rows
claim_count Two claim rows = false_positives ways_to_depart claim rows
claim_count Three claim rows = false_positives ways_to_depart claim rows
claim_count Four claim rows = length (wrongs_of claim (map with_others_left rows))

-- and how many are made by healthy members
abbrev pub healthy_count : Version → Setup → What → List Row → ℕ
healthy_count One s claim rows = healthy_false_positives s ways_to_depart claim rows
healthy_count Two s claim rows = healthy_false_positives s ways_to_depart claim rows
healthy_count Three s claim rows = healthy_false_positives s ways_to_depart claim rows
healthy_count Four s claim rows = count_by (is_healthy_maker s) (wrongs_of claim (map with_others_left rows))

-- how often a member took for alive again one that it held to have failed, in version 4 also one that it held to have left
abbrev pub revivals_told : Version → List Row → ℕ
revivals_told One rows = revivals rows
revivals_told Two rows = revivals rows
revivals_told Three rows = revivals rows
revivals_told Four rows = revivals (map with_left rows)

-- the claim is made of the member
abbrev pub is_of : ℕ → FalsePositive → Bool
is_of member claim = option_map_or (λ about. about == member) claim.about false

-- a member has a false death: it is confirmed to have failed though it had not departed
abbrev pub is_thrown_out : List FalsePositive → ℕ → Bool
is_thrown_out claims member = list_any (is_of member) claims

-- how many members have a false death
abbrev pub thrown_out : Setup → List Row → ℕ
thrown_out s rows = count_by (is_thrown_out (claims_told s.version what.Confirm rows)) (range_with_len 0 (member_count s))

-- how many messages of all kinds were sent, and how many of them were lost
abbrev pub messages_sent : Version → List Row → ℕ
messages_sent version rows = sum_by (λ kind. count_of kind rows) (message_kinds version)

abbrev pub messages_lost : Version → List Row → ℕ
messages_lost version rows = sum_by (λ kind. losses_of kind rows) (message_kinds version)

-- the incidents of a run, where a version of the format counts them
abbrev pub incidents_told : Version → Setup → List Row → Option RunIncidents
incidents_told One s rows = None
incidents_told Two s rows = None
incidents_told Three s rows = None
incidents_told Four s rows = Some (incidents_of s rows)

-- the figures of a run of a scenario that has these rows
unfoldable pub figures_of : Setup → List Row → RunFigures
figures_of s rows =
    record {
      rows = length rows;
      crashes = length (crashes_told s.version rows);
      detected = count_by is_detected (crashes_told s.version rows);
      suspect_least = reduce min (filter_map suspected_after (crashes_told s.version rows));
      confirm_least = reduce min (latencies_of (crashes_told s.version rows));
      confirm_greatest = reduce max (latencies_of (crashes_told s.version rows));
      last_greatest = reduce max (filter_map last_after (crashes_told s.version rows));
      false_suspect = claim_count s.version what.Suspect rows;
      false_suspect_healthy = healthy_count s.version s what.Suspect rows;
      false_confirm = claim_count s.version what.Confirm rows;
      false_confirm_healthy = healthy_count s.version s what.Confirm rows;
      thrown_out = thrown_out s rows;
      revived = revivals_told s.version rows;
      incidents = incidents_told s.version s rows;
      accuse = count_of what.Accuse rows;
      refute = count_of what.Refute rows;
      fail = count_of what.Fail rows;
      health = worst_health rows;
      sent = messages_sent s.version rows;
      lost = messages_lost s.version rows;
    }

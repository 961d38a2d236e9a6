-- The text of the report: its lines in order.
use Rattle.std.specs.Prelude.{ℕ, Option, Some, None, List, [], ◌∷◌, ◌++◌, codes, decimal, length, map, flat_map, count_by, min, max}
use Rattle.std.specs.List.{join_with_byte, reduce}
use Rattle.schema.specs.declared.schema.Version.{Version}
use Rattle.schema.specs.declared.schema.Version.TheVariants.{One, Two, Three, Four}
use Rattle.scenario.specs.Setup.{Setup, member_count, name_of}
use Rattle.trace.specs.Text.{word_of}
use Rattle.trace.specs.declared.row.What.{What}
use Rattle.trace.specs.declared.row.What.TheVariants as what
use Rattle.trace.specs.declared.row.Row.{Row}
use Rattle.incidents.specs.declared.returns.Return.{Return}
use Rattle.incidents.specs.Cluster.{founders_of, troubles_of, reach_of}
use Rattle.incidents.specs.Incidents.{alarms, deaths, deaths_well, members_dead}
use Rattle.incidents.specs.Whole.{whole_since}
use Rattle.incidents.specs.Returns.{returns_of}
use Rattle.reports.specs.declared.departure.DepartureReport.{DepartureReport}
use Rattle.reports.specs.declared.false_positives.FalsePositive.{FalsePositive}
use Rattle.trace_rows.specs.Rows.{count_of, losses_of, worst_health}
use Rattle.reports.specs.Departures.{crashes_of, leaves_of, latency_of, latencies_of}
use Rattle.reports.specs.Revivals.{revivals}
use Rattle.reports.specs.Failures.{is_healthy_maker}
use Rattle.reports.specs.Absences.{with_left, with_others_left, absences_of, wrongs_of}
use Rattle.reports.specs.FalsePositives.{ways_to_depart, first_ways_to_depart, false_positives, healthy_false_positives}

-- a line: its fields, separated by one space, and a line feed
abbrev pub line : List (List ℕ) → List ℕ
line fields = join_with_byte 32 fields ++ codes "\n"

-- a figure, or a dash where there is none
abbrev pub figure : Option ℕ → List ℕ
figure (Some n) = decimal n
figure None = codes "-"

-- a word and a number
unfoldable pub count_line : List ℕ → ℕ → List ℕ
count_line word n = line (word ∷ decimal n ∷ [])

-- a crash: whose and when, the first suspicion, the first and the last confirmation and how many there were, and the latency
unfoldable pub crash_line : Setup → DepartureReport → List ℕ
crash_line s crash =
    line (codes "crash" ∷ name_of s crash.member ∷ decimal crash.at
    ∷ codes "suspect" ∷ figure crash.detection.suspect
    ∷ codes "confirm" ∷ figure crash.detection.confirm
    ∷ codes "last" ∷ figure crash.detection.last
    ∷ codes "confirmers" ∷ decimal crash.detection.confirmers
    ∷ codes "latency" ∷ figure (latency_of crash) ∷ [])

-- a leave: whose and when, the first and the last confirmation, and how many there were
unfoldable pub leave_line : Setup → DepartureReport → List ℕ
leave_line s leave =
    line (codes "leave" ∷ name_of s leave.member ∷ decimal leave.at
    ∷ codes "confirm" ∷ figure leave.detection.confirm
    ∷ codes "last" ∷ figure leave.detection.last
    ∷ codes "confirmers" ∷ decimal leave.detection.confirmers ∷ [])

-- the least and the greatest latency
unfoldable pub latency_line : Option ℕ → Option ℕ → List ℕ
latency_line least greatest = line (codes "latency" ∷ codes "least" ∷ figure least ∷ codes "greatest" ∷ figure greatest ∷ [])

-- the false positives of a claim, and those of them at healthy members
unfoldable pub false_line : List ℕ → ℕ → ℕ → List ℕ
false_line word all healthy = line (codes "false" ∷ word ∷ decimal all ∷ codes "healthy" ∷ decimal healthy ∷ [])

-- what was sent of a kind of message, and how much of that was lost
unfoldable pub sent_line : List ℕ → ℕ → ℕ → List ℕ
sent_line word all lost = line (codes "sent" ∷ word ∷ decimal all ∷ codes "lost" ∷ decimal lost ∷ [])

-- a restart: whose and when, when the member first had a table, when somebody last said that it is alive, and how many did
unfoldable pub return_line : Setup → Return → List ℕ
return_line s r =
    line (codes "restart" ∷ name_of s r.member ∷ decimal r.at
    ∷ codes "joined" ∷ figure r.joined
    ∷ codes "back" ∷ figure r.back
    ∷ codes "holders" ∷ decimal r.holders ∷ [])

-- since when the cluster is whole
unfoldable pub whole_line : Option ℕ → List ℕ
whole_line since = line (codes "whole" ∷ figure since ∷ [])

-- false alarms, false deaths, the members that had one, and those of them of members that were well
unfoldable pub incident_line : ℕ → ℕ → ℕ → ℕ → List ℕ
incident_line alarms deaths members well =
    line (codes "alarms" ∷ decimal alarms ∷ codes "deaths" ∷ decimal deaths ∷ codes "members" ∷ decimal members ∷ codes "well" ∷ decimal well ∷ [])

-- the kinds of message that version 1 of the format has
abbrev pub first_message_kinds : List What
first_message_kinds = what.Join ∷ what.Welcome ∷ what.Ping ∷ what.PingReq ∷ what.Ack ∷ what.Nack ∷ []

-- the kinds of message of a version
abbrev pub message_kinds : Version → List What
message_kinds One = first_message_kinds
message_kinds Two = first_message_kinds ++ what.Bye ∷ []
message_kinds Three = first_message_kinds ++ what.Bye ∷ what.Gossip ∷ what.Call ∷ what.Answer ∷ what.Push ∷ what.Pull ∷ []
message_kinds Four = first_message_kinds ++ what.Bye ∷ what.Gossip ∷ what.Call ∷ what.Answer ∷ what.Push ∷ what.Pull ∷ what.Reconnect ∷ []

-- how large the cluster is, how long it ran, and how many rows it wrote
abbrev pub size_lines : Setup → List Row → List ℕ
size_lines s rows = count_line (codes "members") (member_count s) ++ count_line (codes "end") s.end ++ count_line (codes "rows") (length rows)

-- the least and the greatest of the latencies that are there
abbrev pub latencies_line : List DepartureReport → List ℕ
latencies_line crashes = latency_line (reduce min (latencies_of crashes)) (reduce max (latencies_of crashes))

-- a line for each crash
abbrev pub crash_lines : Setup → List Row → List ℕ
crash_lines s rows = flat_map (crash_line s) (crashes_of rows)

-- a line for each leave, where a version of the format has them
abbrev pub leave_lines : Version → Setup → List DepartureReport → List ℕ
leave_lines One s leaves = []
leave_lines Two s leaves = flat_map (leave_line s) leaves
leave_lines Three s leaves = flat_map (leave_line s) leaves
leave_lines Four s leaves = flat_map (leave_line s) leaves

-- false suspicions, and members that were falsely confirmed to have failed, where members depart in these ways
abbrev pub false_claim_line : Setup → List What → List Row → What → List ℕ
false_claim_line s ways rows claim = false_line (word_of claim) (false_positives ways claim rows) (healthy_false_positives s ways claim rows)

-- how often members were taken for alive again, where a version of the format has that
abbrev pub revived_lines : Version → List Row → List ℕ
revived_lines One rows = []
revived_lines Two rows = []
revived_lines Three rows = count_line (codes "revived") (revivals rows)
revived_lines Four rows = count_line (codes "revived") (revivals rows)

-- how often members accused and refuted, how often probes failed, and how bad a member's health got
abbrev pub protocol_lines : List Row → List ℕ
protocol_lines rows =
    count_line (codes "accuse") (count_of what.Accuse rows) ++ count_line (codes "refute") (count_of what.Refute rows)
    ++ count_line (codes "fail") (count_of what.Fail rows) ++ count_line (codes "health") (worst_health rows)

-- one kind of message
abbrev pub message_line : List Row → What → List ℕ
message_line rows kind = sent_line (word_of kind) (count_of kind rows) (losses_of kind rows)

-- the lines that a version of the format has, where members depart in these ways
abbrev pub report_lines : Version → List What → Setup → List Row → List ℕ
report_lines version ways s rows =
    size_lines s rows ++ crash_lines s rows ++ leave_lines version s (leaves_of rows) ++ latencies_line (crashes_of rows)
    ++ false_claim_line s ways rows what.Suspect ++ false_claim_line s ways rows what.Confirm
    ++ revived_lines version rows ++ protocol_lines rows ++ flat_map (message_line rows) (message_kinds version)

-- false claims: how many, and how many by healthy members
abbrev pub claims_line : Setup → What → List FalsePositive → List ℕ
claims_line s claim claims = false_line (word_of claim) (length claims) (count_by (is_healthy_maker s) claims)

-- the incidents of a trace
abbrev pub incidents_line : Setup → List Row → List ℕ
incidents_line s rows =
    incident_line (alarms (member_count s) rows) (deaths (member_count s) rows) (members_dead (member_count s) rows)
    (deaths_well (member_count s) (troubles_of s) (reach_of s) rows)

-- the lines of version 4, where these are the rows with what others say of those who left
abbrev pub lines_with_returns : Setup → List Row → List Row → List ℕ
lines_with_returns s rows others =
    size_lines s rows ++ flat_map (crash_line s) (absences_of what.Crash others) ++ flat_map (leave_line s) (absences_of what.Leave others)
    ++ flat_map (return_line s) (returns_of (member_count s) rows) ++ latencies_line (absences_of what.Crash others)
    ++ claims_line s what.Suspect (wrongs_of what.Suspect others) ++ claims_line s what.Confirm (wrongs_of what.Confirm others)
    ++ count_line (codes "revived") (revivals (map with_left rows)) ++ whole_line (whole_since (founders_of s) rows) ++ incidents_line s rows
    ++ protocol_lines rows ++ flat_map (message_line rows) (message_kinds Four)

-- the lines of a version
abbrev pub lines_of_version : Version → Setup → List Row → List ℕ
lines_of_version One s rows = report_lines One ways_to_depart s rows
lines_of_version Two s rows = report_lines Two ways_to_depart s rows
lines_of_version Three s rows = report_lines Three ways_to_depart s rows
lines_of_version Four s rows = lines_with_returns s rows (map with_others_left rows)

-- the report of a trace
unfoldable pub report_text : Setup → List Row → List ℕ
report_text s rows = lines_of_version s.version s rows

-- the report as version 1 of the format defined it, when members crashed and none left
unfoldable pub first_report_text : Setup → List Row → List ℕ
first_report_text s rows = report_lines One first_ways_to_depart s rows

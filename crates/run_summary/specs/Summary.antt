-- What happened, in a few words.
use Rattle.std.specs.Prelude.{ℕ, Bool, false, ◌&&◌, nat_le, nat_lt, nat_eq, if◌then◌else◌, Option, Some, None, List, [], ◌∷◌, ◌++◌, codes, decimal, length, count_by, map, min, max}
use Rattle.std.specs.Option.{is_some}
use Rattle.std.specs.List.{reduce, list_any}
use Rattle.schema.specs.declared.schema.Version.{Version}
use Rattle.schema.specs.declared.schema.Version.TheVariants.{One, Two, Three, Four}
use Rattle.scenario.specs.Setup.{Setup, member_count}
use Rattle.trace.specs.declared.row.What.TheVariants as what
use Rattle.trace.specs.declared.row.Row.{Row}
use Rattle.reports.specs.declared.departure.DepartureReport.{DepartureReport}
use Rattle.reports.specs.declared.false_positives.FalsePositive.{FalsePositive}
use Rattle.reports.specs.Failures.{false_positives_of}
use Rattle.reports.specs.Rows.{count_of, worst_health}
use Rattle.reports.specs.Departures.{crashes_of, latencies_of}
use Rattle.reports.specs.Revivals.{revivals}
use Rattle.reports.specs.FalsePositives.{ways_to_depart, false_positives}
use Rattle.reports.specs.Absences.{with_left, with_others_left, absences_of, wrongs_of}
use Rattle.incidents.specs.Incidents.{alarms}
use Rattle.incidents.specs.Returns.{returns_of}
use Rattle.drawing.specs.Numbers.{grouped}
use Rattle.member_timelines.specs.Numbers.{by_number}
use Rattle.member_timelines.specs.Wrongly.{count_out, is_claim_about}
use Rattle.drawing.specs.Lengths.{lasting, lasting_between}
use Rattle.ticks.specs.declared.tick.Tick.{Tick}

-- how large the cluster is and how long it ran
unfoldable pub size_words : Option Tick → Setup → List ℕ
size_words time s =
    grouped (member_count s) ++ by_number (member_count s) (codes " member, ") (codes " members, ") ++ grouped s.end ++ by_number s.end (codes " tick") (codes " ticks") ++ lasting time s.end ++ codes ". "

-- how many crashed, by the words for one and what stands behind the number of several
unfoldable pub crashed_words : List ℕ → List ℕ → ℕ → List ℕ
crashed_words one several count = if nat_eq count 1 then one else decimal count ++ several

-- how many of them were detected, where not all were
unfoldable pub some_found : ℕ → List ℕ
some_found found = codes ", " ++ decimal found ++ by_number found (codes " of them was detected") (codes " of them were detected")

-- how many others had been declared dead before
unfoldable pub known_words : ℕ → List ℕ
known_words known = if nat_eq known 0 then [] else codes ", " ++ decimal known ++ codes " already declared dead"

-- the same of so many, where none was detected
unfoldable pub unfound_words : ℕ → ℕ → List ℕ
unfound_words count known =
    if nat_eq known 0 then codes ", undetected. "
    else if nat_eq known count then codes ", already declared dead. "
    else codes ", " ++ decimal known ++ codes " already declared dead, the others undetected. "

-- how many were detected and how many had been declared dead before, where some were detected and others weren't
unfoldable pub part_found : ℕ → ℕ → List ℕ
part_found found known = some_found found ++ known_words known

-- how many of so many were detected, and how many others had been declared dead before
unfoldable pub found_words : ℕ → ℕ → ℕ → List ℕ
found_words count found known =
    if nat_eq found 0 then unfound_words count known
    else if nat_lt found count then part_found found known else []

-- the greatest time, where it is another than the least
abbrev pub greatest_words : ℕ → ℕ → List ℕ
greatest_words least greatest = if nat_lt least greatest then codes " to " ++ grouped greatest else []

-- how long both last
abbrev pub lasting_from : Option Tick → ℕ → ℕ → List ℕ
lasting_from time least greatest = if nat_lt least greatest then lasting_between time least greatest else lasting time least

-- how soon: between these times
unfoldable pub between_words : Option Tick → ℕ → ℕ → List ℕ
between_words time least greatest = codes ": first declared dead after " ++ grouped least ++ greatest_words least greatest ++ codes " ticks" ++ lasting_from time least greatest ++ codes ". "

-- the same, where some were detected
unfoldable pub latency_words : Option Tick → Option ℕ → Option ℕ → List ℕ
latency_words time (Some least) (Some greatest) = between_words time least greatest
latency_words time _ _ = []

-- somebody confirmed that the member had failed
abbrev pub is_found : DepartureReport → Bool
is_found crash = is_some crash.detection.confirm

-- the false claim is about the member that crashed, and was made by then
abbrev pub is_earlier : DepartureReport → FalsePositive → Bool
is_earlier crash claim = is_claim_about crash.member claim && nat_le claim.at crash.at

-- nobody did, but there is such a claim among these
abbrev pub is_known : List FalsePositive → DepartureReport → Bool
is_known claims crash = if is_found crash then false else list_any (is_earlier crash) claims

-- how many crashed, by these words, and how soon they were detected, where these are the false claims that members are dead
unfoldable pub crash_words : Option Tick → List ℕ → List ℕ → List DepartureReport → List FalsePositive → List ℕ
crash_words time one several crashes claims =
    if nat_eq (length crashes) 0 then codes "Nobody crashed. "
    else crashed_words one several (length crashes) ++ found_words (length crashes) (count_by is_found crashes) (count_by (is_known claims) crashes)
    ++ latency_words time (reduce min (latencies_of crashes)) (reduce max (latencies_of crashes))

-- how many members have a false death
unfoldable pub out_words : ℕ → List ℕ
out_words out =
    if nat_eq out 0 then codes "No member that was up was declared dead."
    else if nat_eq out 1 then codes "<b>1 member was declared dead while it was up.</b>"
    else codes "<b>" ++ decimal out ++ codes " members were declared dead while they were up.</b>"

-- a figure begins, with its class
unfoldable pub figure_start : List ℕ → List ℕ
figure_start class = codes "<li class=\"" ++ class ++ codes "\"><b>"

-- a figure: its class, the number, and its words for one and for several
unfoldable pub figure : List ℕ → ℕ → List ℕ → List ℕ → List ℕ
figure class number one several = figure_start class ++ grouped number ++ codes "</b><span>" ++ by_number number one several ++ codes "</span></li>"

-- the class of a figure of false deaths
abbrev pub out_class : ℕ → List ℕ
out_class out = if nat_lt 0 out then codes "bad" else codes ""

-- how often members declared others alive again, where the version has that
abbrev pub back_figure : Version → List Row → List ℕ
back_figure One rows = []
back_figure Two rows = []
back_figure Three rows = figure (codes "") (revivals rows) (codes "time declared alive again") (codes "times declared alive again")
back_figure Four rows = figure (codes "") (revivals rows) (codes "time declared alive again") (codes "times declared alive again")

-- how many members crashed, how many have a false death, and how many false deaths there are
unfoldable pub first_figures : ℕ → ℕ → ℕ → List ℕ
first_figures crashed out deaths =
    figure (codes "") crashed (codes "member crashed") (codes "members crashed")
    ++ figure (out_class out) out (codes "member with a false death") (codes "members with a false death")
    ++ figure (out_class deaths) deaths (codes "false death") (codes "false deaths")

-- the same of these rows, where so many members have a false death
abbrev pub first_figures_of : ℕ → List Row → List ℕ
first_figures_of out rows = first_figures (length (crashes_of rows)) out (false_positives ways_to_depart what.Confirm rows)

-- the figures of the protocol and of the trace
unfoldable pub last_figures : ℕ → ℕ → ℕ → ℕ → ℕ → List ℕ
last_figures suspicions refutations fails worst rows =
    figure (codes "") suspicions (codes "false suspicion") (codes "false suspicions") ++ figure (codes "") refutations (codes "refutation") (codes "refutations")
    ++ figure (codes "") fails (codes "failed probe") (codes "failed probes") ++ figure (codes "") worst (codes "worst health") (codes "worst health")
    ++ figure (codes "") rows (codes "row in the trace") (codes "rows in the trace")

-- the same of these rows
abbrev pub last_figures_of : List Row → List ℕ
last_figures_of rows = last_figures (false_positives ways_to_depart what.Suspect rows) (count_of what.Refute rows) (count_of what.Fail rows) (worst_health rows) (length rows)

-- a figure without a class, where it isn't 0
abbrev pub some_figure : ℕ → List ℕ → List ℕ → List ℕ
some_figure number one several = if nat_lt 0 number then figure (codes "") number one several else []

-- the rows that before version 4 only the members of a harness write, and that then count in no other figure but that of all rows
unfoldable pub harness_figures : ℕ → ℕ → ℕ → List ℕ
harness_figures left forgotten reconnects =
    some_figure left (codes "row <code>left</code>") (codes "rows <code>left</code>")
    ++ some_figure forgotten (codes "row <code>forget</code>") (codes "rows <code>forget</code>")
    ++ some_figure reconnects (codes "row <code>reconnect</code>") (codes "rows <code>reconnect</code>")

-- the same of these rows
abbrev pub harness_figures_of : List Row → List ℕ
harness_figures_of rows = harness_figures (count_of what.Left rows) (count_of what.Forget rows) (count_of what.Reconnect rows)

-- the figures, where so many members have a false death
unfoldable pub figures : Version → ℕ → List Row → List ℕ
figures version out rows = first_figures_of out rows ++ back_figure version rows ++ last_figures_of rows ++ harness_figures_of rows

-- what happened, where so many members have a false death
unfoldable pub summary_of : Option Tick → Setup → ℕ → List Row → List ℕ
summary_of time s out rows =
    codes "<p class=\"lead\">" ++ size_words time s ++ crash_words time (codes "1 member crashed") (codes " members crashed") (crashes_of rows) (false_positives_of what.Confirm rows) ++ out_words out
    ++ codes "</p><ul class=\"figures\">" ++ figures s.version out rows ++ codes "</ul>\n"

-- how often members were declared dead while they were up
unfoldable pub death_words : ℕ → List ℕ
death_words deaths =
    if nat_eq deaths 0 then codes "No member that was up was declared dead."
    else if nat_eq deaths 1 then codes "<b>A member was declared dead while it was up.</b>"
    else codes "<b>Members were declared dead " ++ decimal deaths ++ codes " times while they were up.</b>"

-- the figures of a run of version 4, in which members start again: how many crashes, restarts, false alarms and false deaths there are
unfoldable pub account_figures : ℕ → ℕ → ℕ → ℕ → ℕ → List ℕ
account_figures crashes restarts alarms deaths back =
    figure (codes "") crashes (codes "crash") (codes "crashes") ++ figure (codes "") restarts (codes "restart") (codes "restarts")
    ++ figure (codes "") alarms (codes "incident") (codes "incidents") ++ figure (out_class deaths) deaths (codes "false death") (codes "false deaths")
    ++ figure (codes "") back (codes "time declared alive again") (codes "times declared alive again")

-- the figures of the protocol and of the trace, where there are so many false suspicions
abbrev pub other_figures : ℕ → List Row → List ℕ
other_figures suspicions rows = last_figures suspicions (count_of what.Refute rows) (count_of what.Fail rows) (worst_health rows) (length rows)

-- what happened in such a run, where these are its crashes and its false deaths
unfoldable pub account_lead : Option Tick → Setup → List DepartureReport → List FalsePositive → ℕ → List ℕ
account_lead time s crashes claims deaths =
    codes "<p class=\"lead\">" ++ size_words time s ++ crash_words time (codes "1 crash") (codes " crashes") crashes claims ++ death_words deaths

-- all its figures
unfoldable pub account_list : ℕ → ℕ → ℕ → ℕ → ℕ → ℕ → List Row → List ℕ
account_list crashes restarts alarms deaths back suspicions rows =
    codes "</p><ul class=\"figures\">" ++ account_figures crashes restarts alarms deaths back ++ other_figures suspicions rows ++ harness_figures_of rows
    ++ codes "</ul>\n"

-- both
unfoldable pub account_words : Option Tick → Setup → List DepartureReport → List FalsePositive → ℕ → ℕ → ℕ → ℕ → ℕ → List Row → List ℕ
account_words time s crashes claims restarts alarms deaths back suspicions rows =
    account_lead time s crashes claims deaths ++ account_list (length crashes) restarts alarms deaths back suspicions rows

-- the same of these rows: as its report counts
abbrev pub account_text : Option Tick → Setup → List Row → List ℕ
account_text time s rows =
    account_words time s (absences_of what.Crash (map with_others_left rows)) (wrongs_of what.Confirm (map with_others_left rows)) (length (returns_of (member_count s) rows))
    (alarms (member_count s) rows) (length (wrongs_of what.Confirm (map with_others_left rows))) (revivals (map with_left rows))
    (length (wrongs_of what.Suspect (map with_others_left rows))) rows

-- what happened in a run of a version
abbrev pub summary_by : Version → Option Tick → Setup → List Row → List ℕ
summary_by One time s rows = summary_of time s (count_out s rows) rows
summary_by Two time s rows = summary_of time s (count_out s rows) rows
summary_by Three time s rows = summary_of time s (count_out s rows) rows
summary_by Four time s rows = account_text time s rows

-- what happened
abbrev pub summary_text : Option Tick → Setup → List Row → List ℕ
summary_text time s rows = summary_by s.version time s rows

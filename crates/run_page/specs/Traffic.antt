-- Messages by kind, over time.
use Rattle.std.specs.Prelude.{ℕ, Bool, ◌-◌, ◌*◌, ◌/◌, ◌%◌, ◌^◌, nat_lt, nat_eq, if◌then◌else◌, List, [], ◌++◌, codes, decimal, map, flat_map, count_by, sum_by, min, max, Option}
use Rattle.std.specs.Option.{is_some}
use Rattle.std.specs.List.{range_with_len}
use Rattle.scenario.specs.Setup.{Setup, member_count}
use Rattle.trace.specs.declared.row.What.{What}
use Rattle.trace.specs.declared.row.What.TheVariants as what
use Rattle.trace.specs.declared.row.Row.{Row}
use Rattle.trace.specs.Text.{word_of}
use Rattle.reports.specs.Rows.{count_of, losses_of}
use Rattle.reports.specs.Text.{message_kinds}
use Rattle.series.specs.Spans.{span_width, span_count}
use Rattle.series.specs.Series.{kind_place, sends_in, loses_in}
use Rattle.drawing.specs.Axes.{axis_up}
use Rattle.drawing.specs.Legends.{entry, counted_entry}
use Rattle.drawing.specs.Numbers.{grouped}
use Rattle.drawing.specs.Shapes.{figure_opening, figure_end, plot_opening, plot_end, area}
use Rattle.member_timelines.specs.Heights.{flat, axis_height}
use Rattle.member_timelines.specs.Lanes.{moments}
use Rattle.member_timelines.specs.LaneTable.{time_axis}
use Rattle.member_timelines.specs.Numbers.{by_number}
use Rattle.run_page.specs.Stacks.{Layer, layers, tops, greatest}
use Rattle.drawing.specs.Lengths.{lasting, moment_alone}
use Rattle.ticks.specs.declared.tick.Tick.{Tick}

-- the class of a kind of message: no version's members send both bye and reconnect
abbrev pub class_of : What → List ℕ
class_of what.Ping = codes "one"
class_of what.Ack = codes "two"
class_of what.PingReq = codes "five"
class_of what.Nack = codes "four"
class_of what.Join = codes "three"
class_of what.Welcome = codes "six"
class_of what.Bye = codes "seven"
class_of what.Reconnect = codes "seven"
class_of what.Gossip = codes "eight"
class_of what.Push = codes "nine"
class_of what.Pull = codes "ten"
class_of what.Call = codes "eleven"
class_of _ = codes "twelve"

-- messages of this kind are counted
abbrev pub is_counted : What → Bool
is_counted kind = is_some (kind_place kind)

-- how many messages of a kind were sent in each span, and how many of them were lost
abbrev pub sent_by_span : Setup → List Row → What → List ℕ
sent_by_span s rows kind = map (λ span. count_by (sends_in s kind span) rows) (range_with_len 0 (span_count s))

abbrev pub lost_by_span : Setup → List Row → What → List ℕ
lost_by_span s rows kind = map (λ span. count_by (loses_in s kind span) rows) (range_with_len 0 (span_count s))

-- what is drawn of a kind
abbrev pub sent_layer : Setup → List Row → What → Layer
sent_layer s rows kind = record { class = class_of kind; heights = sent_by_span s rows kind }

abbrev pub lost_layer : Setup → List Row → What → Layer
lost_layer s rows kind = record { class = codes "lost"; heights = lost_by_span s rows kind }

-- how many messages of the version's kinds were sent, and how many of them were lost, as far as 64 bits hold it
abbrev pub sent : Setup → List Row → ℕ
sent s rows = min (sum_by (λ kind. count_of kind rows) (message_kinds s.version)) (2 ^ 64 - 1)

abbrev pub lost : Setup → List Row → ℕ
lost s rows = min (sum_by (λ kind. losses_of kind rows) (message_kinds s.version)) (2 ^ 64 - 1)

-- messages per member and 1,000 ticks, in hundredths
abbrev pub hundredths : Setup → ℕ → ℕ
hundredths s sent = sent * 100000 / max (max s.end 1 * member_count s) 1

-- a number of hundredths with two places
unfoldable pub two_places : ℕ → List ℕ
two_places n = decimal (n / 100) ++ codes "." ++ decimal (n / 10 % 10) ++ decimal (n % 10)

-- how many messages there were
unfoldable pub rate_words : Setup → ℕ → ℕ → List ℕ
rate_words s sent lost =
    codes "<p class=\"soft\">Messages sent: " ++ grouped sent ++ codes "; lost: " ++ grouped lost ++ codes "; sent per member per 1,000 ticks: "
    ++ two_places (hundredths s sent) ++ codes ".</p>"

-- some messages of the kind were sent
abbrev pub is_sent : List Row → What → Bool
is_sent rows kind = nat_lt 0 (count_of kind rows)

-- a kind's entry of the legend, where there are some of it
abbrev pub kind_entry : List Row → What → List ℕ
kind_entry rows kind = if is_sent rows kind then counted_entry (class_of kind) (word_of kind) (count_of kind rows) else []

-- the entry of what was lost, where some was
abbrev pub lost_entry : ℕ → List ℕ
lost_entry lost = if nat_lt 0 lost then entry (codes "lost") (codes "lost, of all kinds") else []

-- the legend
unfoldable pub kinds_legend : Setup → List Row → ℕ → List ℕ
kinds_legend s rows lost =
    codes "<ul class=\"legend\">" ++ flat_map (kind_entry rows) (message_kinds s.version)
    ++ lost_entry lost ++ codes "</ul>"

-- how high each span is drawn of all that was sent, and of all that was lost
abbrev pub sent_tops : Setup → List Row → List ℕ
sent_tops s rows = tops (2 ^ 64 - 1) (flat (span_count s)) (map (sent_layer s rows) (message_kinds s.version))

abbrev pub lost_tops : Setup → List Row → List ℕ
lost_tops s rows = tops (2 ^ 64 - 1) (flat (span_count s)) (map (lost_layer s rows) (message_kinds s.version))

-- how long a span is, behind some words
unfoldable pub width_words : Option Tick → List ℕ → ℕ → List ℕ
width_words time words width = words ++ grouped width ++ by_number width (codes " tick") (codes " ticks") ++ lasting time width ++ codes ".</p>"

-- the end of a plot, with the axis of time below it, and how long its spans are, behind some words
unfoldable pub below_plot : Option Tick → Setup → List ℕ → List ℕ
below_plot time s words = plot_end ++ time_axis time s ++ width_words time words (span_width s)

-- an area for each kind, each on those before it
abbrev pub sent_areas : Setup → List Row → ℕ → List ℕ
sent_areas s rows most = layers s most (flat (span_count s)) (map (sent_layer s rows) (message_kinds s.version))

-- the messages that were sent, in a plot of that height
unfoldable pub sent_plot : Option Tick → Setup → List Row → ℕ → List ℕ
sent_plot time s rows most =
    codes "<div class=\"chart\">" ++ axis_up most
    ++ plot_opening (codes "") (moments s) most (codes "Messages sent") (codes "How many messages of each kind were sent in each span of time.")
    ++ sent_areas s rows most ++ below_plot time s (codes "</div><p class=\"soft\">Sent in each span of ")

-- the area of so many in each span that were lost
unfoldable pub lost_area : Setup → List ℕ → ℕ → List ℕ
lost_area s counts most = area (codes "lost") (flat (span_count s)) counts (span_width s) (moments s) most

-- the messages that were lost, so many in each span, in a plot of that height
unfoldable pub lost_plot : Option Tick → Setup → List ℕ → ℕ → List ℕ
lost_plot time s counts most =
    codes "<div class=\"chart low\">" ++ axis_up most
    ++ plot_opening (codes "") (moments s) most (codes "Messages lost") (codes "How many messages were lost in each span of time.")
    ++ lost_area s counts most ++ below_plot time s (codes "</div><p class=\"soft\">Lost in each span of ")

-- the same, where some were lost
abbrev pub lost_part : Option Tick → Setup → List ℕ → List ℕ
lost_part time s counts = if nat_eq (greatest counts) 0 then [] else lost_plot time s counts (axis_height (greatest counts))

-- the heads of a kind's columns: how many were sent, and how many of them were lost
unfoldable pub heads : List ℕ → List ℕ
heads word = codes "<th scope=\"col\">" ++ word ++ codes "</th><th scope=\"col\">" ++ word ++ codes " lost</th>"

-- the same, where there are some of it
abbrev pub column : List Row → What → List ℕ
column rows kind = if is_sent rows kind then heads (word_of kind) else []

-- the heads of all columns, below what the table shows
unfoldable pub columns : List Row → List What → List ℕ
columns rows kinds =
    codes "<table><caption>How many messages of each kind were sent in each span of time, and how many of them were lost</caption><thead><tr><th scope=\"col\">from moment</th>"
    ++ flat_map (column rows) kinds ++ codes "</tr></thead><tbody>\n"

-- a row begins with the moment from which it counts
unfoldable pub row_head : Option Tick → ℕ → List ℕ
row_head time from = codes "<tr><th scope=\"row\">" ++ moment_alone time from ++ codes "</th>"

-- the head of the row of a span
abbrev pub from_cell : Option Tick → Setup → ℕ → List ℕ
from_cell time s span = row_head time (span * span_width s)

-- how many messages of a kind were sent in a span, and how many of them were lost
abbrev pub counts : Setup → List Row → ℕ → What → List ℕ
counts s rows span kind = codes "<td>" ++ decimal (count_by (sends_in s kind span) rows) ++ codes "<td>" ++ decimal (count_by (loses_in s kind span) rows)

-- the same, where there are some of the kind in the run
abbrev pub cells : Setup → List Row → ℕ → What → List ℕ
cells s rows span kind = if is_sent rows kind then counts s rows span kind else []

-- the row of a span
unfoldable pub span_cells : Option Tick → Setup → List Row → ℕ → List ℕ
span_cells time s rows span = from_cell time s span ++ flat_map (cells s rows span) (message_kinds s.version)

-- the messages as a table
unfoldable pub traffic_table : Option Tick → Setup → List Row → List ℕ
traffic_table time s rows =
    codes "<details><summary>The messages as a table</summary><div class=\"wide\">" ++ columns rows (message_kinds s.version)
    ++ flat_map (span_cells time s rows) (range_with_len 0 (span_count s)) ++ codes "</table></div></details>"

-- plots and table, where something was sent
unfoldable pub traffic_body : Option Tick → Setup → List Row → ℕ → List ℕ
traffic_body time s rows most =
    if nat_lt 0 most then sent_plot time s rows (axis_height most) ++ lost_part time s (lost_tops s rows) ++ traffic_table time s rows else []

-- the figure
unfoldable pub traffic_text : Option Tick → Setup → List Row → List ℕ
traffic_text time s rows =
    figure_opening (codes "traffic") (codes "Messages") ++ rate_words s (sent s rows) (lost s rows) ++ kinds_legend s rows (lost s rows)
    ++ traffic_body time s rows (greatest (sent_tops s rows)) ++ figure_end

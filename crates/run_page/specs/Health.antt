-- The members' health scores, over time.
use Rattle.std.specs.Prelude.{ℕ, ◌+◌, ◌-◌, ◌*◌, ◌^◌, ◌==◌, nat_eq, if◌then◌else◌, List, [], ◌++◌, codes, decimal, map, min, flat_map, slice_index, Option}
use Rattle.std.specs.List.{range_with_len}
use Rattle.scenario.specs.Setup.{Setup}
use Rattle.trace.specs.declared.row.Row.{Row}
use Rattle.reports.specs.Rows.{worst_health}
use Rattle.series.specs.Spans.{span_width, span_count}
use Rattle.series.specs.Changes.{came, went}
use Rattle.series.specs.Series.{healths_of}
use Rattle.drawing.specs.Axes.{axis_up}
use Rattle.drawing.specs.Legends.{entry}
use Rattle.drawing.specs.Shapes.{figure_opening, figure_end, plot_opening, plot_end}
use Rattle.member_timelines.specs.Heights.{level, flat, axis_height}
use Rattle.member_timelines.specs.Lanes.{moments}
use Rattle.member_timelines.specs.LaneTable.{time_axis, is_unchanged}
use Rattle.run_page.specs.Stacks.{Layer, layers, tops, greatest}
use Rattle.drawing.specs.Lengths.{moment_alone}
use Rattle.ticks.specs.declared.tick.Tick.{Tick}

-- the values that are drawn: a counter never passes 16
unfoldable pub values : List ℕ
values = range_with_len 1 16

-- the class of a value
abbrev pub class_of_value : ℕ → List ℕ
class_of_value value = if value == 1 then codes "two" else if value == 2 then codes "one" else if value == 3 then codes "six" else codes "dead"

-- how many are in a state at the end of each of so many spans, where nobody is at first, none more than `most`
abbrev pub end_height : (ℕ → ℕ) → (ℕ → ℕ) → ℕ → ℕ → ℕ
end_height came went most span = min (level came went 0 (span + 1)) most

abbrev pub ends : (ℕ → ℕ) → (ℕ → ℕ) → ℕ → ℕ → List ℕ
ends came went spans most = map (end_height came went most) (range_with_len 0 spans)

-- how many members stand at a value at the end of each span
abbrev pub at_value : Setup → List Row → ℕ → ℕ → List ℕ
at_value s rows most value = ends (λ span. came value span (healths_of s rows)) (λ span. went value span (healths_of s rows)) (span_count s) most

-- what is drawn of a value
abbrev pub health_layer : Setup → List Row → ℕ → ℕ → Layer
health_layer s rows most value = record { class = class_of_value value; heights = at_value s rows most value }

-- how many are at a value over 0 in each span, as far as 64 bits hold it
abbrev pub unwell : Setup → List Row → List ℕ
unwell s rows = tops (2 ^ 64 - 1) (flat (span_count s)) (map (health_layer s rows (2 ^ 64 - 1)) values)

-- an area for each value, each on those before it
abbrev pub health_areas : Setup → List Row → ℕ → List ℕ
health_areas s rows most = layers s most (flat (span_count s)) (map (health_layer s rows most) values)

-- what the plot shows
unfoldable pub health_words : List ℕ
health_words =
    codes "<p class=\"soft\">A member's health score (Lifeguard) rises as its own probes fail and as it refutes; answered probes lower it. "
    ++ codes "The score at the end of each span counts. Members at 0 aren't drawn.</p><ul class=\"legend\">"
    ++ entry (codes "two") (codes "at 1") ++ entry (codes "one") (codes "at 2") ++ entry (codes "six") (codes "at 3") ++ entry (codes "dead") (codes "at 4 and more")
    ++ codes "</ul>"

-- the plot, as high as so many members
unfoldable pub health_plot : Option Tick → Setup → List Row → ℕ → List ℕ
health_plot time s rows most =
    codes "<div class=\"chart low\">" ++ axis_up most
    ++ plot_opening (codes "") (moments s) most (codes "Health scores") (codes "How many members have each health score.")
    ++ health_areas s rows most ++ plot_end ++ time_axis time s ++ codes "</div>"

-- a row of the table: how many members stand at a value from a moment on
abbrev pub health_row : Option Tick → ℕ → ℕ → ℕ → List ℕ
health_row time value from count = codes "<tr><th scope=\"row\">" ++ decimal value ++ codes "</th><td>" ++ moment_alone time from ++ codes "<td>" ++ decimal count

-- the row of a span, where the number changes in it
abbrev pub health_span : Option Tick → ℕ → ℕ → List ℕ → ℕ → List ℕ
health_span time value width counts span = if is_unchanged counts span then [] else health_row time value (span * width) (slice_index counts span)

-- the rows of so many spans
abbrev pub health_rows : Option Tick → ℕ → ℕ → ℕ → List ℕ → List ℕ
health_rows time value width spans counts = flat_map (health_span time value width counts) (range_with_len 0 spans)

-- the rows of a value
abbrev pub value_rows : Option Tick → Setup → List Row → ℕ → List ℕ
value_rows time s rows value = health_rows time value (span_width s) (span_count s) (at_value s rows (2 ^ 64 - 1) value)

-- the health as a table
unfoldable pub health_table : Option Tick → Setup → List Row → List ℕ
health_table time s rows =
    codes "<details><summary>Health scores as a table</summary><div class=\"wide\"><table><caption>How many members have each health score, from each moment at which that changes</caption>"
    ++ codes "<thead><tr><th scope=\"col\">health score</th><th scope=\"col\">from moment</th><th scope=\"col\">members</th></tr></thead><tbody>\n"
    ++ flat_map (value_rows time s rows) values ++ codes "</table></div></details>"

-- the figure, its plot as high as so many members
unfoldable pub health_figure : Option Tick → Setup → List Row → ℕ → List ℕ
health_figure time s rows most =
    figure_opening (codes "health") (codes "Members in bad health") ++ health_words ++ health_plot time s rows most ++ health_table time s rows ++ figure_end

-- the same, where somebody was in bad health
abbrev pub health_text : Option Tick → Setup → List Row → List ℕ
health_text time s rows = if nat_eq (worst_health rows) 0 then [] else health_figure time s rows (axis_height (greatest (unwell s rows)))

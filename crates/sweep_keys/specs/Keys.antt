-- The figures of axes: what each key that is set changes, or keys that go together.
use Rattle.std.specs.Prelude.{ℕ, Bool, ◌+◌, ◌-◌, ◌/◌, ◌%◌, ◌^◌, ◌==◌, ◌&&◌, nat_le, if◌then◌else◌, min, max, List, [], ◌∷◌, ◌++◌, Option, Some, None, codes, decimal, drop, fold, is_some, length, slice_get, take, unwrap_or}
use Rattle.std.specs.List.{flat_map, range_with_len}
use Rattle.std.specs.Option.{option_map_or}
use Rattle.sweep_plan.specs.Settings.{settings_of}
use Rattle.sweep_plan.specs.Asked.{names_text, values_text}
use Rattle.sweep_plan.specs.Axes.{axes_of, place_count}
use Rattle.sweep_plan.specs.Sweep.{KeyValues, setting_count}
use Rattle.sweep_plan.specs.declared.choice.Choice.{Choice}
use Rattle.drawing.specs.Axes.{time_up}
use Rattle.drawing.specs.Escaped.{escaped, markup}
use Rattle.drawing.specs.Numbers.{place as place_on}
use Rattle.drawing.specs.Shapes.{figure_opening, figure_end, plot_opening, plot_end}
use Rattle.figures.specs.declared.summary.SettingSummary.{SettingSummary}
use Rattle.sweep_keys.specs.Lines.{key_lines, setting_place, width, middle, across, shared_out, statistic_words, early, median, late}
use Rattle.sweep_cells.specs.Paths.{path_start, path_step}
use Rattle.sweep_cells.specs.Cells.{cell, time_cell}
use Rattle.sweep_cells.specs.Words.{count_words, swept_keys_words}
use Rattle.sweep_keys.specs.declared.lines.KeyLines.{KeyLines}
use Rattle.sweep_keys.specs.declared.statistic.Statistic.{Statistic}
use Rattle.sweep_keys.specs.declared.statistic.Statistic.TheVariants.{Suspected, Confirmed, Last}
use Rattle.ticks.specs.declared.tick.Tick.{Tick}

-- the choices of a setting but those for so many keys from a place on
abbrev pub without : ℕ → ℕ → List Choice → List Choice
without key keys chosen = take key chosen ++ drop (key + keys) chosen

-- the values of the other keys, in words
unfoldable pub others_words : List Choice → List ℕ
others_words others = if length others == 0 then codes "all else as in the scenario" else swept_keys_words others

-- the choices of the setting at a place but those of so many keys from one on
unfoldable pub others_at : List KeyValues → ℕ → ℕ → ℕ → List ℕ
others_at swept_keys key keys place = option_map_or (λ chosen. others_words (without key keys chosen)) (slice_get (settings_of swept_keys) place) []

-- an entry of the legend begins by a shard of its line
unfoldable pub sample : ℕ → List ℕ
sample line = codes "<li><svg class=\"sample\" viewBox=\"0 0 20 10\" aria-hidden=\"true\"><path class=\"path s" ++ decimal line ++ codes "\" d=\"M0 5H20\"/></svg><code>"

-- it shows the values of the other keys, which all settings of its line have
unfoldable pub legend_entry : List KeyValues → KeyLines → ℕ → ℕ → List ℕ
legend_entry swept_keys k key line = sample line ++ others_at swept_keys key k.keys (setting_place k line 0) ++ markup (codes "</code></li>")

-- so many lines aren't drawn
unfoldable pub more_undrawn : ℕ → List ℕ
more_undrawn more = markup (codes "<p class=\"soft\">") ++ count_words more (codes " more line is") (codes " more lines are") ++ markup (codes " not drawn; the table of all settings has all figures.</p>")

-- nothing where all are
unfoldable pub undrawn_words : ℕ → List ℕ
undrawn_words more = if more == 0 then [] else more_undrawn more

-- the legend of a key's lines, each by its first setting
unfoldable pub legend : List KeyValues → KeyLines → ℕ → List ℕ
legend swept_keys k key =
    markup (codes "<ul class=\"legend\">") ++ flat_map (legend_entry swept_keys k key) (range_with_len 0 k.lines) ++ markup (codes "</ul>")
    ++ undrawn_words (setting_count swept_keys / max k.values 1 - k.lines)

-- the setting that a line has over the value at a place
abbrev pub setting_over : List SettingSummary → KeyLines → ℕ → ℕ → Option SettingSummary
setting_over settings k line value = slice_get settings (setting_place k line value)

-- its median time
abbrev pub time_over : List SettingSummary → KeyLines → Statistic → ℕ → ℕ → Option ℕ
time_over settings k s line value = option_map_or (median s) (setting_over settings k line value) None

-- the greatest time that is drawn of a setting; 0 where there is none
unfoldable pub greatest_in : Statistic → SettingSummary → ℕ
greatest_in s setting = max (unwrap_or (early s setting) 0) (max (unwrap_or (median s setting) 0) (unwrap_or (late s setting) 0))

-- that of a line's setting over the value at a place
unfoldable pub greatest_over : List SettingSummary → KeyLines → Statistic → ℕ → ℕ → ℕ
greatest_over settings k s line value = option_map_or (greatest_in s) (setting_over settings k line value) 0

-- that of a line
unfoldable pub greatest_of : List SettingSummary → KeyLines → Statistic → ℕ → ℕ
greatest_of settings k s line = fold (λ most value. max most (greatest_over settings k s line value)) 0 (range_with_len 0 k.values)

-- that of all lines, 1 at least
unfoldable pub greatest_of_all : List SettingSummary → KeyLines → Statistic → ℕ
greatest_of_all settings k s = fold (λ most line. max most (greatest_of settings k s line)) 1 (range_with_len 0 k.lines)

-- room above a time, by which a bar to the top is distinguished from one that ends at this time
abbrev pub with_room : ℕ → ℕ
with_room time = time + time / 16 + 1

-- how high a plot is; a time of more than a billion billions isn't distinguished from that
unfoldable pub plot_height : List SettingSummary → KeyLines → Statistic → ℕ
plot_height settings k s = with_room (min (greatest_of_all settings k s) (10 ^ 18))

-- a line has a time over the value before the one at a place
abbrev pub goes_on : List SettingSummary → KeyLines → Statistic → ℕ → ℕ → Bool
goes_on settings k s line value = nat_le 1 value && is_some (time_over settings k s line (value - 1))

-- it then goes on to its next corner, and else begins anew there
unfoldable pub corner : Bool → ℕ → ℕ → List ℕ
corner on at height = if on then path_step at height else path_start at height

-- the corner over a value; none where the line has no time
unfoldable pub corner_over : List SettingSummary → KeyLines → Statistic → ℕ → ℕ → ℕ → List ℕ
corner_over settings k s most line value =
    option_map_or (λ time. corner (goes_on settings k s line value) (across k line value) (most - time)) (time_over settings k s line value) []

-- an upright bar between two heights, in the colour of a line; heights count from the top
unfoldable pub reach_bar : ℕ → ℕ → ℕ → ℕ → List ℕ
reach_bar line at foot top =
    codes "<path class=\"reach s" ++ decimal line ++ codes "\" d=\"M" ++ decimal at ++ codes " " ++ decimal foot ++ codes "V" ++ decimal top ++ codes "\"/>"

-- a dot at a height
unfoldable pub median_dot : ℕ → ℕ → ℕ → List ℕ
median_dot line at height = codes "<path class=\"mark s" ++ decimal line ++ codes "\" d=\"M" ++ decimal at ++ codes " " ++ decimal height ++ codes "h0\"/>"

-- the bar of a setting goes from its 5th to its 95th percentile: to the top where it has no 95th, and there is none where it has no 5th
unfoldable pub bar_of : Statistic → ℕ → ℕ → ℕ → SettingSummary → List ℕ
bar_of s most line at setting = option_map_or (λ time. reach_bar line at (most - time) (most - unwrap_or (late s setting) most)) (early s setting) []

-- its dot stands at its median, where it has one
unfoldable pub dot_of : Statistic → ℕ → ℕ → ℕ → SettingSummary → List ℕ
dot_of s most line at setting = option_map_or (λ time. median_dot line at (most - time)) (median s setting) []

-- both of a setting
unfoldable pub marks_of : Statistic → ℕ → ℕ → ℕ → SettingSummary → List ℕ
marks_of s most line at setting = bar_of s most line at setting ++ dot_of s most line at setting

-- those of the setting of a line over a value
unfoldable pub marks_over : List SettingSummary → KeyLines → Statistic → ℕ → ℕ → ℕ → List ℕ
marks_over settings k s most line value = option_map_or (marks_of s most line (across k line value)) (setting_over settings k line value) []

-- a line begins, in its colour
unfoldable pub path_line : ℕ → List ℕ
path_line line = codes "<path class=\"path s" ++ decimal line ++ codes "\" d=\""

-- a line over the values, and then its bars and dots
unfoldable pub line_over : List SettingSummary → KeyLines → Statistic → ℕ → ℕ → List ℕ
line_over settings k s most line =
    path_line line ++ flat_map (corner_over settings k s most line) (range_with_len 0 k.values) ++ markup (codes "\"/>") ++ flat_map (marks_over settings k s most line) (range_with_len 0 k.values)

-- the values at a place under a plot, in the middle of their room
unfoldable pub value_word : KeyLines → List KeyValues → ℕ → List ℕ
value_word k axis place = markup (codes "<span style=\"left:") ++ place_on (middle place) (width k) ++ markup (codes "\">") ++ escaped (values_text axis place) ++ markup (codes "</span>")

-- where they are among those that are shown: of eight or more not all
unfoldable pub value_at : KeyLines → List KeyValues → ℕ → List ℕ
value_at k axis place = if place % (k.values / 8 + 1) == 0 then value_word k axis place else []

-- the values under a plot
unfoldable pub values_under : KeyLines → List KeyValues → List ℕ
values_under k axis = markup (codes "<div class=\"values\" aria-hidden=\"true\">") ++ flat_map (value_at k axis) (range_with_len 0 (place_count axis)) ++ markup (codes "</div>")

-- a chart begins by what it shows
unfoldable pub chart_opening : Statistic → List ℕ
chart_opening s = markup (codes "<div><h3>") ++ markup (statistic_words s) ++ markup (codes "</h3><div class=\"chart\">")

-- what a screen reader reads of a plot
abbrev pub lines_words : Option Tick → List ℕ
lines_words None = codes "Ticks since the crash against the values of the key: a line of medians for each value of the others, and over each value a bar from the 5th to the 95th percentile, or to the top where more than 5 % of the crashes weren't detected."
lines_words (Some tick) = codes "Time since the crash against the values of the key: a line of medians for each value of the others, and over each value a bar from the 5th to the 95th percentile, or to the top where more than 5 % of the crashes weren't detected."

-- its plot begins, so wide as the values want and so high
unfoldable pub lines_opening : Option Tick → KeyLines → ℕ → Statistic → List ℕ
lines_opening time k most s = plot_opening (codes "lines") (width k) most (statistic_words s) (lines_words time)

-- the lines of the plot
unfoldable pub lines_plane : Option Tick → List SettingSummary → KeyLines → Statistic → ℕ → List ℕ
lines_plane time settings k s most =
    markup (codes "<div class=\"plane\">") ++ lines_opening time k most s ++ flat_map (line_over settings k s most) (range_with_len 0 k.lines) ++ plot_end ++ markup (codes "</div>")

-- a chart of a statistic over the values
unfoldable pub key_chart : Option Tick → List SettingSummary → KeyLines → List KeyValues → Statistic → List ℕ
key_chart time settings k axis s =
    chart_opening s ++ time_up time (plot_height settings k s) ++ lines_plane time settings k s (plot_height settings k s) ++ values_under k axis ++ markup (codes "</div></div>")

-- what is drawn of a setting, in cells
unfoldable pub drawn_times : Option Tick → Statistic → SettingSummary → List ℕ
drawn_times time s setting = time_cell time (early s setting) ++ time_cell time (median s setting) ++ time_cell time (late s setting)

-- the times of a setting, in cells
unfoldable pub times_of : Option Tick → SettingSummary → List ℕ
times_of time setting = drawn_times time Suspected setting ++ drawn_times time Confirmed setting ++ time_cell time setting.confirm_p99 ++ drawn_times time Last setting ++ time_cell time setting.last_greatest

-- those of a line's setting with the value at a place
unfoldable pub times_over : Option Tick → List SettingSummary → KeyLines → ℕ → ℕ → List ℕ
times_over time settings k line place = option_map_or (times_of time) (setting_over settings k line place) []

-- the row of a line's setting with the values at a place: these, the other keys' values, and the times
unfoldable pub key_row : Option Tick → List KeyValues → List SettingSummary → KeyLines → ℕ → List KeyValues → ℕ → ℕ → List ℕ
key_row time swept_keys settings k key axis line place =
    markup (codes "<tr>") ++ cell (values_text axis place) ++ markup (codes "<td>") ++ others_at swept_keys key k.keys (setting_place k line place) ++ markup (codes "</td>")
    ++ times_over time settings k line place ++ markup (codes "</tr>")

-- what the cells of times are in: ticks, or units, which they say, where it is known how long a tick lasts
abbrev pub caption_words : Option Tick → List ℕ
caption_words None = codes "What is drawn, in ticks"
caption_words (Some tick) = codes "What is drawn"

-- what the columns are
unfoldable pub column_heads : List ℕ
column_heads = codes "</caption><thead><tr><th scope=\"col\">value</th><th scope=\"col\">other keys</th><th scope=\"col\">suspected, 5th percentile</th><th scope=\"col\">suspected, median</th><th scope=\"col\">suspected, 95th percentile</th><th scope=\"col\">confirmed, 5th percentile</th><th scope=\"col\">confirmed, median</th><th scope=\"col\">confirmed, 95th percentile</th><th scope=\"col\">confirmed, 99th percentile</th><th scope=\"col\">last confirmed, 5th percentile</th><th scope=\"col\">last confirmed, median</th><th scope=\"col\">last confirmed, 95th percentile</th><th scope=\"col\">last confirmed, greatest</th></tr></thead><tbody>"

-- the table begins
unfoldable pub key_heads : Option Tick → List ℕ
key_heads time = markup (codes "<details><summary>These figures in numbers</summary><div class=\"wide\"><table><caption>") ++ markup (caption_words time) ++ column_heads

-- the rows of a line
unfoldable pub line_rows : Option Tick → List KeyValues → List SettingSummary → KeyLines → ℕ → List KeyValues → ℕ → List ℕ
line_rows time swept_keys settings k key axis line = flat_map (key_row time swept_keys settings k key axis line) (range_with_len 0 (place_count axis))

-- the figures of an axis in numbers, folded
unfoldable pub key_table : Option Tick → List KeyValues → List SettingSummary → KeyLines → ℕ → List KeyValues → List ℕ
key_table time swept_keys settings k key axis =
    key_heads time ++ flat_map (line_rows time swept_keys settings k key axis) (range_with_len 0 k.lines) ++ markup (codes "</tbody></table></div></details>")

-- by which name a key's figure is found
abbrev pub key_id : ℕ → List ℕ
key_id key = codes "key-" ++ decimal key

-- what it is called
abbrev pub key_heading : List KeyValues → List ℕ
key_heading axis = codes "What " ++ names_text axis ++ codes " changes"

-- what an axis of time counts
abbrev pub counted_word : Option Tick → List ℕ
counted_word None = codes "ticks"
counted_word (Some tick) = codes "time"

-- what its plots show, in words
unfoldable pub marks_words : Option Tick → List ℕ
marks_words time = markup (codes "<p class=\"soft\">Up: ") ++ markup (counted_word time) ++ markup (codes " since the crash. Each dot is a median over all crashes of all runs, and its bar goes from the 5th to the 95th percentile. A crash that wasn't detected counts as later than any: where more than 5&nbsp;% weren't, the bar goes to the top of the plot; where more than half weren't, there is no dot.</p>")

-- it begins
unfoldable pub key_opening : Option Tick → ℕ → List KeyValues → List ℕ
key_opening time key axis = figure_opening (key_id key) (key_heading axis) ++ marks_words time

-- its charts
unfoldable pub key_charts : Option Tick → List SettingSummary → KeyLines → List KeyValues → List ℕ
key_charts time settings k axis =
    markup (codes "<div class=\"many\">") ++ key_chart time settings k axis Suspected ++ key_chart time settings k axis Confirmed ++ key_chart time settings k axis Last ++ markup (codes "</div>")

-- the figure of an axis with these lines, whose first key stands at a place: what the lines are, the charts, and the same in numbers
unfoldable pub key_figure : Option Tick → List KeyValues → List SettingSummary → KeyLines → ℕ → List KeyValues → List ℕ
key_figure time swept_keys settings k key axis =
    key_opening time key axis ++ legend swept_keys k key ++ key_charts time settings k axis ++ key_table time swept_keys settings k key axis ++ figure_end

-- the lines over it: what stands for each value of the keys before is shared out among its own
abbrev pub lines_of : List KeyValues → List SettingSummary → ℕ → List KeyValues → KeyLines
lines_of swept_keys settings key axis =
    key_lines (length axis) (place_count axis) (shared_out (length settings) (take key swept_keys) / max (place_count axis) 1) (length settings)

-- a figure, where the axis has more values than one
unfoldable pub key_figure_of : Option Tick → List KeyValues → List SettingSummary → ℕ → List KeyValues → List ℕ
key_figure_of time swept_keys settings key axis = if nat_le 2 (place_count axis) then key_figure time swept_keys settings (lines_of swept_keys settings key axis) key axis else []

-- those of axes, the first of which begins at the key at a place
abbrev pub figures_from : Option Tick → List KeyValues → List SettingSummary → ℕ → List (List KeyValues) → List ℕ
figures_from time swept_keys settings key [] = []
figures_from time swept_keys settings key (axis ∷ axes) = key_figure_of time swept_keys settings key axis ++ figures_from time swept_keys settings (key + length axis) axes

-- the figures of all axes
unfoldable pub key_figures : Option Tick → List KeyValues → List SettingSummary → List ℕ
key_figures time swept_keys settings = figures_from time swept_keys settings 0 (axes_of swept_keys)

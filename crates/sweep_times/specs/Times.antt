-- The figure of times: for each setting on the front, after how many ticks its crashes were first confirmed.
use Rattle.std.specs.Prelude.{ℕ, ◌-◌, ◌==◌, if◌then◌else◌, List, [], ◌++◌, codes, length, slice_get, take, Option, None, Some}
use Rattle.std.specs.List.{flat_map, range_with_len}
use Rattle.std.specs.Option.{option_map_or}
use Rattle.sweep_plan.specs.Sweep.{KeyValues}
use Rattle.drawing.specs.Escaped.{markup}
use Rattle.drawing.specs.Lengths.{time_alone}
use Rattle.drawing.specs.Numbers.{grouped}
use Rattle.drawing.specs.Shapes.{figure_opening, figure_end}
use Rattle.figures.specs.declared.histogram.Histogram.{Histogram}
use Rattle.figures.specs.declared.summary.SettingSummary.{SettingSummary}
use Rattle.sweep_cells.specs.Words.{count_words, number_words}
use Rattle.sweep_times.specs.Bins.{axis_reach, bin_start, bin_end, never_confirmed}
use Rattle.sweep_times.specs.Charts.{charts}
use Rattle.ticks.specs.declared.tick.Tick.{Tick}

-- a row begins with the number of its setting
unfoldable pub row_opening : ℕ → List ℕ
row_opening place = markup (codes "<tr><td>") ++ number_words place ++ markup (codes "</td><td>")

-- it ends with how many crashes it counts
unfoldable pub row_end : ℕ → List ℕ
row_end count = markup (codes "</td><td>") ++ grouped count ++ markup (codes "</td></tr>")

-- the row of a bin: its first tick and its last, and how many times are in it
unfoldable pub filled_row : Option Tick → Histogram → ℕ → ℕ → ℕ → List ℕ
filled_row time times place bin count = row_opening place ++ time_alone time (bin_start times bin) ++ markup (codes " to ") ++ time_alone time (bin_end times bin - 1) ++ row_end count

-- nothing where no times are in it
unfoldable pub bin_row : Option Tick → Histogram → ℕ → ℕ → ℕ → List ℕ
bin_row time times place bin count = if count == 0 then [] else filled_row time times place bin count

-- the row of the bin at a place
unfoldable pub row_at : Option Tick → Histogram → ℕ → ℕ → List ℕ
row_at time times place bin = option_map_or (bin_row time times place bin) (slice_get times.bins bin) []

-- the rows of all bins of a setting
unfoldable pub bin_rows : Option Tick → Histogram → ℕ → List ℕ
bin_rows time times place = flat_map (row_at time times place) (range_with_len 0 20)

-- the row of the crashes that were never confirmed
unfoldable pub never_row : ℕ → SettingSummary → List ℕ
never_row place setting = row_opening place ++ markup (codes "never") ++ row_end (never_confirmed setting)

-- the rows of a setting
unfoldable pub setting_rows : Option Tick → ℕ → SettingSummary → List ℕ
setting_rows time place setting = bin_rows time setting.confirm_times place ++ never_row place setting

-- those of the setting at a place
unfoldable pub rows_at : Option Tick → List SettingSummary → ℕ → List ℕ
rows_at time settings place = option_map_or (setting_rows time place) (slice_get settings place) []

-- what the cells of times are in: ticks, or units where it is known how long a tick lasts
abbrev pub counted_word : Option Tick → List ℕ
counted_word None = codes "ticks"
counted_word (Some tick) = codes "time"

-- what the columns are
unfoldable pub times_heads : Option Tick → List ℕ
times_heads time =
    markup (codes "<details><summary>These times in numbers</summary><div class=\"wide\"><table><caption>How many crashes were first confirmed when</caption><thead><tr><th scope=\"col\">setting</th><th scope=\"col\">")
    ++ markup (counted_word time) ++ markup (codes " until first confirmed</th><th scope=\"col\">crashes</th></tr></thead><tbody>")

-- the bins of the settings at these places in numbers, folded
unfoldable pub times_table : Option Tick → List SettingSummary → List ℕ → List ℕ
times_table time settings places = times_heads time ++ flat_map (rows_at time settings) places ++ markup (codes "</tbody></table></div></details>")

-- what the charts show
unfoldable pub times_words : List ℕ
times_words = codes "<p class=\"soft\">For each of the fastest settings on the front, at most 12: how many crashes of all its runs were first confirmed after how many ticks. A bar is as wide as the span of ticks that it counts, and all charts reach as far as the latest of these times; the upright rule is the median.</p>"

-- so many more are on the front
unfoldable pub more_words : ℕ → List ℕ
more_words more = markup (codes "<p class=\"soft\">") ++ count_words more (codes " more setting on the front is") (codes " more settings on the front are") ++ markup (codes " not drawn.</p>")

-- nothing where all are drawn
unfoldable pub undrawn_words : ℕ → List ℕ
undrawn_words more = if more == 0 then [] else more_words more

-- the figure of the settings at these places, with how many more there are
unfoldable pub figure_of : Option Tick → List KeyValues → List SettingSummary → List ℕ → ℕ → List ℕ
figure_of time swept_keys settings places more =
    figure_opening (codes "times") (codes "How the times to confirm spread") ++ times_words ++ charts time swept_keys settings (axis_reach settings places) places ++ undrawn_words more
    ++ times_table time settings places ++ figure_end

-- that of the first twelve of these; nothing where there are none
unfoldable pub times_figure : Option Tick → List KeyValues → List SettingSummary → List ℕ → List ℕ
times_figure time swept_keys settings places = if length places == 0 then [] else figure_of time swept_keys settings (take 12 places) (length places - 12)

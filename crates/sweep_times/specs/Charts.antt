-- A chart of the times of a setting: a bar for each bin.
use Rattle.std.specs.Prelude.{ℕ, ◌+◌, ◌==◌, if◌then◌else◌, min, List, [], ◌++◌, codes, decimal, slice_get, Option, Some, None}
use Rattle.std.specs.List.{flat_map, range_with_len}
use Rattle.std.specs.Option.{option_map_or}
use Rattle.sweep_plan.specs.Sweep.{KeyValues}
use Rattle.drawing.specs.Axes.{axis_up, time_across}
use Rattle.drawing.specs.Escaped.{markup}
use Rattle.drawing.specs.Numbers.{grouped}
use Rattle.drawing.specs.Shapes.{bar, rule, plot_opening, plot_end}
use Rattle.figures.specs.declared.histogram.Histogram.{Histogram}
use Rattle.figures.specs.declared.summary.SettingSummary.{SettingSummary}
use Rattle.sweep_cells.specs.Words.{number_words, swept_keys_at, lasting_words, time_words}
use Rattle.sweep_times.specs.Bins.{held, bin_start, bin_end, height_of, never_confirmed}
use Rattle.ticks.specs.declared.tick.Tick.{Tick}

-- the bar of a bin, as wide as the bin and as high as its times are many; the plot cuts it off
unfoldable pub filled_bar : Histogram → ℕ → ℕ → ℕ → ℕ → List ℕ
filled_bar times across up bin count = bar (codes "one") (min (bin_start times bin) across) (min (bin_end times bin) across) 0 (min count up) up

-- nothing where no times are in it
unfoldable pub bin_bar : Histogram → ℕ → ℕ → ℕ → ℕ → List ℕ
bin_bar times across up bin count = if count == 0 then [] else filled_bar times across up bin count

-- the bar of the bin at a place
unfoldable pub bar_at : Histogram → ℕ → ℕ → ℕ → List ℕ
bar_at times across up bin = option_map_or (bin_bar times across up bin) (slice_get times.bins bin) []

-- the bars of all bins
unfoldable pub bars : Histogram → ℕ → ℕ → List ℕ
bars times across up = flat_map (bar_at times across up) (range_with_len 0 20)

-- an upright rule at the median; none where a setting has none
unfoldable pub median_rule : SettingSummary → ℕ → ℕ → List ℕ
median_rule setting across up = option_map_or (λ time. rule (codes "median") (min time across) up) setting.confirm_p50 []

-- what the plot of the setting at a place is called
unfoldable pub plot_title : ℕ → List ℕ
plot_title place = codes "Setting " ++ decimal (held (place + 1)) ++ codes ": time until a crash is first confirmed"

-- what a screen reader reads of it
abbrev pub times_words : Option Tick → List ℕ
times_words None =
    codes "Across: ticks since the crash, as far as in each chart here. Up: how many crashes were first confirmed then. The upright rule is the median. The table beneath has the numbers."
times_words (Some tick) =
    codes "Across: time since the crash, as far as in each chart here. Up: how many crashes were first confirmed then. The upright rule is the median. The table beneath has the numbers."

-- its plot begins
unfoldable pub times_opening : Option Tick → ℕ → ℕ → ℕ → List ℕ
times_opening time place across up = plot_opening (codes "times") across up (plot_title place) (times_words time)

-- the bars and the rule
unfoldable pub times_plane : Option Tick → ℕ → SettingSummary → ℕ → ℕ → List ℕ
times_plane time place setting across up =
    markup (codes "<div class=\"plane\">") ++ times_opening time place across up ++ bars setting.confirm_times across up ++ median_rule setting across up ++ plot_end ++ markup (codes "</div>")

-- the chart of the setting at a place begins by its number and its choices
unfoldable pub chart_heading : List KeyValues → ℕ → List ℕ
chart_heading swept_keys place =
    markup (codes "<div><h3><span class=\"number\">") ++ number_words place ++ markup (codes "</span> <code>") ++ swept_keys_at swept_keys place ++ markup (codes "</code></h3>")

-- its median, and how many crashes were never confirmed
unfoldable pub chart_words : Option Tick → SettingSummary → List ℕ
chart_words time setting =
    markup (codes "<p class=\"soft\">Median: ") ++ time_words None setting.confirm_p50 ++ markup (codes " ticks") ++ lasting_words time setting.confirm_p50 ++ markup (codes ". Never confirmed: ") ++ grouped (never_confirmed setting)
    ++ markup (codes " of ") ++ grouped (held setting.crashes) ++ markup (codes " crashes.</p>")

-- its plot with both axes
unfoldable pub times_plot : Option Tick → ℕ → ℕ → SettingSummary → List ℕ
times_plot time across place setting =
    markup (codes "<div class=\"chart\">") ++ axis_up (height_of setting.confirm_times) ++ times_plane time place setting across (height_of setting.confirm_times)
    ++ time_across time across (codes "ticks since the crash") (codes "time since the crash") ++ markup (codes "</div></div>")

-- the chart of a setting
unfoldable pub times_chart : Option Tick → List KeyValues → ℕ → ℕ → SettingSummary → List ℕ
times_chart time swept_keys across place setting = chart_heading swept_keys place ++ chart_words time setting ++ times_plot time across place setting

-- that of the setting at a place
unfoldable pub chart_at : Option Tick → List KeyValues → List SettingSummary → ℕ → ℕ → List ℕ
chart_at time swept_keys settings across place = option_map_or (times_chart time swept_keys across place) (slice_get settings place) []

-- the charts of the settings at these places
unfoldable pub charts : Option Tick → List KeyValues → List SettingSummary → ℕ → List ℕ → List ℕ
charts time swept_keys settings across places = markup (codes "<div class=\"many\">") ++ flat_map (chart_at time swept_keys settings across) places ++ markup (codes "</div>")

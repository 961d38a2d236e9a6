-- The table of all settings.
use Rattle.std.specs.Prelude.{ℕ, Bool, ◌==◌, if◌then◌else◌, List, [], ◌++◌, codes, encode_utf8, length, slice_get, Option, None, Some}
use Rattle.std.specs.List.{flat_map, list_any, range_with_len}
use Rattle.std.specs.Option.{is_some, option_map_or}
use Rattle.std.specs.Str.{chars}
use Rattle.sweep_plan.specs.Settings.{settings_of}
use Rattle.sweep_plan.specs.Keys.{key_name}
use Rattle.sweep_plan.specs.Sweep.{KeyValues}
use Rattle.sweep_plan.specs.Values.{value_text}
use Rattle.sweep_plan.specs.declared.choice.Choice.{Choice}
use Rattle.drawing.specs.Escaped.{markup}
use Rattle.drawing.specs.Shapes.{figure_opening, figure_end}
use Rattle.figures.specs.declared.summary.SettingSummary.{SettingSummary}
use Rattle.incident_figures.specs.declared.setting.DayRates.{DayRates}
use Rattle.incident_figures.specs.declared.setting.IncidentSummary.{IncidentSummary}
use Rattle.sweep_cells.specs.Cells.{cell, time_cell}
use Rattle.sweep_cells.specs.Words.{percent_words, hundredths_words, hundredths_interval_words, rate_words, runs_words, interval_words, thousandths, share_of, number_words}
use Rattle.sweep_page.specs.Points.{is_marked}
use Rattle.ticks.specs.declared.tick.Tick.{Tick}

-- the cells of a setting's members with a false death per run
unfoldable pub death_cells : SettingSummary → List ℕ
death_cells setting =
    markup (codes "<td>") ++ hundredths_words setting.deaths ++ markup (codes "</td><td>") ++ hundredths_interval_words setting.deaths_low setting.deaths_high ++ markup (codes "</td>")

-- the cells of fatal incidents in a day, with their interval; dashes where runs have no time
unfoldable pub rate_cells : DayRates → List ℕ
rate_cells day = markup (codes "<td>") ++ hundredths_words day.rate ++ markup (codes "</td><td>") ++ hundredths_interval_words day.low day.high ++ markup (codes "</td>")

unfoldable pub no_rate_cells : List ℕ
no_rate_cells = codes "<td>-</td><td>-</td>"

abbrev pub rate_cells_of : IncidentSummary → List ℕ
rate_cells_of incidents = option_map_or rate_cells incidents.day no_rate_cells

-- those of a setting, dashes too where its version counts no incidents; nothing where no setting's does
abbrev pub day_cells : Bool → SettingSummary → List ℕ
day_cells counted setting = if counted then option_map_or rate_cells_of setting.incidents no_rate_cells else []

-- the cells that show how often it has false deaths
unfoldable pub share_cells : SettingSummary → List ℕ
share_cells setting =
    markup (codes "<td>") ++ runs_words setting ++ markup (codes "</td><td>") ++ percent_words (share_of setting) ++ markup (codes "</td><td>")
    ++ interval_words (thousandths setting.share_low) (thousandths setting.share_high) ++ markup (codes "</td>") ++ death_cells setting

-- the cells of what it cost: false suspicions a run, and messages
unfoldable pub cost_cells : SettingSummary → List ℕ
cost_cells setting = markup (codes "<td>") ++ hundredths_words setting.false_suspect ++ markup (codes "</td><td>") ++ rate_words setting.messages ++ markup (codes "</td>")

-- the cells of a setting's figures
unfoldable pub timed_cells : Option Tick → SettingSummary → List ℕ
timed_cells time setting =
    time_cell time setting.confirm_p50 ++ share_cells setting ++ time_cell time setting.suspect_p50 ++ time_cell time setting.confirm_p99 ++ time_cell time setting.confirm_greatest ++ time_cell time setting.last_p50
    ++ time_cell time setting.last_greatest ++ cost_cells setting

-- those of them that are no times
unfoldable pub timeless_cells : SettingSummary → List ℕ
timeless_cells setting = share_cells setting ++ cost_cells setting

-- times are left out where no run has a crash
unfoldable pub figure_cells : Option Tick → Bool → SettingSummary → List ℕ
figure_cells time crashed setting = if crashed then timed_cells time setting else timeless_cells setting

-- the cell of a value that a setting gives a key
unfoldable pub value_cell : Choice → List ℕ
value_cell choice = cell (value_text choice.value)

-- those of the setting at a place
unfoldable pub value_cells : List KeyValues → ℕ → List ℕ
value_cells swept_keys place = option_map_or (λ chosen. flat_map value_cell chosen) (slice_get (settings_of swept_keys) place) []

-- a row begins with the number of its setting, which has a star where it is on the front
unfoldable pub row_opening : Bool → List ℕ
row_opening marked = if marked then codes "<tr class=\"best\"><th scope=\"row\">&#9733;&nbsp;" else codes "<tr><th scope=\"row\">"

-- the row of a setting
unfoldable pub row : Option Tick → Bool → Bool → List KeyValues → ℕ → SettingSummary → Bool → List ℕ
row time crashed counted swept_keys place setting marked =
    row_opening marked ++ number_words place ++ markup (codes "</th>") ++ value_cells swept_keys place ++ figure_cells time crashed setting ++ day_cells counted setting ++ markup (codes "</tr>\n")

-- the row of the setting at a place
unfoldable pub row_at : Option Tick → Bool → Bool → List KeyValues → List SettingSummary → List Bool → ℕ → List ℕ
row_at time crashed counted swept_keys settings front place = option_map_or (λ setting. row time crashed counted swept_keys place setting (is_marked front place)) (slice_get settings place) []

-- A character of a key's name; behind a dot the line may break. There is nothing to escape: names have small letters, digits, `_`, `-` and dots alone.
abbrev pub name_char : ℕ → List ℕ
name_char c = if c == 46 then codes ".<wbr>" else encode_utf8 c

-- the name of a key over its column
unfoldable pub key_head : KeyValues → List ℕ
key_head swept = markup (codes "<th scope=\"col\">") ++ flat_map name_char (chars (key_name swept.key)) ++ markup (codes "</th>")

-- what its times are
abbrev pub since_words : Option Tick → List ℕ
since_words None = codes "in ticks since the crash"
since_words (Some tick) = codes "counted from the crash on"

-- what its figures are
unfoldable pub timed_words : Option Tick → List ℕ
timed_words time = markup (codes "<p class=\"soft\">Times are ") ++ markup (since_words time) ++ markup (codes ", over all crashes of all runs; a dash stands where too few crashes were detected. Starred settings are on the front.</p>")

unfoldable pub timeless_words : List ℕ
timeless_words = codes "<p class=\"soft\">No run has a crash, so the columns and the plots of times since a crash are left out. Starred settings are on the front.</p>"

unfoldable pub table_words : Option Tick → Bool → List ℕ
table_words time crashed = if crashed then timed_words time else timeless_words

-- the table begins
unfoldable pub table_opening : List ℕ
table_opening = codes "<div class=\"wide\"><table><caption>All settings</caption><thead><tr><th scope=\"col\">number</th>"

-- the words over the figures
unfoldable pub timed_heads : List ℕ
timed_heads = codes "<th scope=\"col\">confirmed, median</th><th scope=\"col\">runs with a false death</th><th scope=\"col\">their share</th><th scope=\"col\">95&nbsp;% interval</th><th scope=\"col\">members with a false death per run</th><th scope=\"col\">their 95&nbsp;% interval</th><th scope=\"col\">suspected, median</th><th scope=\"col\">confirmed, 99th percentile</th><th scope=\"col\">confirmed, greatest</th><th scope=\"col\">last confirmed, median</th><th scope=\"col\">last confirmed, greatest</th><th scope=\"col\">false suspicions per run</th><th scope=\"col\">messages per member per 1,000 ticks</th>"

unfoldable pub timeless_heads : List ℕ
timeless_heads = codes "<th scope=\"col\">runs with a false death</th><th scope=\"col\">their share</th><th scope=\"col\">95&nbsp;% interval</th><th scope=\"col\">members with a false death per run</th><th scope=\"col\">their 95&nbsp;% interval</th><th scope=\"col\">false suspicions per run</th><th scope=\"col\">messages per member per 1,000 ticks</th>"

unfoldable pub figure_heads : Bool → List ℕ
figure_heads crashed = if crashed then timed_heads else timeless_heads

-- and those over what only some versions count
unfoldable pub rate_heads : List ℕ
rate_heads = codes "<th scope=\"col\">fatal incidents in a day</th><th scope=\"col\">their 95&nbsp;% interval</th>"

abbrev pub counts_incidents : SettingSummary → Bool
counts_incidents setting = is_some setting.incidents

abbrev pub day_heads : Bool → List ℕ
day_heads counted = if counted then rate_heads else []

-- the table: a column for each key and each figure, a row for each setting
unfoldable pub table : Option Tick → Bool → List KeyValues → List SettingSummary → List Bool → List ℕ
table time crashed swept_keys settings front =
    figure_opening (codes "cases") (codes "All settings") ++ table_words time crashed ++ table_opening ++ flat_map key_head swept_keys ++ figure_heads crashed ++ day_heads (list_any counts_incidents settings) ++ markup (codes "</tr></thead><tbody>\n")
    ++ flat_map (row_at time crashed (list_any counts_incidents settings) swept_keys settings front) (range_with_len 0 (length settings)) ++ markup (codes "</tbody></table></div>") ++ figure_end

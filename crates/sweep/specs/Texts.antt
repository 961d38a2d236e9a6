-- The text of the settings of a sweep: a header, and a line for each setting, in aligned columns.
use Rattle.std.specs.Prelude.{ℕ, List, [], ◌∷◌, ◌++◌, length, map, max}
use Rattle.std.specs.List.{flat_map, zip}
use Rattle.sweep_plan.specs.Keys.{key_name}
use Rattle.sweep_plan.specs.Values.{value_text}
use Rattle.sweep_plan.specs.Sweep.{KeyValues, Sweep}
use Rattle.sweep_plan.specs.Settings.{settings_of}
use Rattle.sweep_plan.specs.declared.choice.Choice.{Choice}
use Rattle.figures.specs.declared.column_set.ColumnSet.{ColumnSet}
use Rattle.figures.specs.SettingLines.{cells_aligned, figure_texts, figure_widths, figure_words}
use Rattle.figures.specs.declared.summary.SettingSummary.{SettingSummary}
use Rattle.goals.specs.Front.{is_on_front, mark_text, mark_word}
use Rattle.sweep.specs.Table.{names_of, texts_of}

-- how long the longest of some texts is
abbrev pub longest : List (List ℕ) → ℕ
longest [] = 0
longest (text ∷ texts) = max (length text) (longest texts)

-- the width of a key's column: that of its name, or of the longest of its values
abbrev pub column_width : KeyValues → ℕ
column_width s = longest (key_name s.key ∷ map value_text s.values)

abbrev pub widths_of : List KeyValues → List ℕ
widths_of swept_keys = map column_width swept_keys

-- the line of a setting among all, with its mark
abbrev pub marked_line : ColumnSet → List ℕ → List SettingSummary → List Choice → SettingSummary → List ℕ
marked_line columns widths all chosen summary = cells_aligned (widths ++ figure_widths columns) (texts_of chosen ++ figure_texts columns summary) ++ mark_text (is_on_front summary all)

-- the lines of settings with these summaries, among all
abbrev pub lines_of_settings : ColumnSet → List ℕ → List SettingSummary → List (List Choice) → List SettingSummary → List ℕ
lines_of_settings columns widths all settings summaries = flat_map (λ one. marked_line columns widths all one.0 one.1) (zip settings summaries)

-- the words over the columns, with that over the marks
abbrev pub marked_header : ColumnSet → List KeyValues → List ℕ
marked_header columns swept_keys = cells_aligned (widths_of swept_keys ++ figure_widths columns) (names_of swept_keys ++ figure_words columns) ++ mark_word

-- The header, and the line of each setting, in order, in these columns. A setting that no other beats is marked.
abbrev pub settings_text : ColumnSet → Sweep → List SettingSummary → List ℕ
settings_text columns sweep summaries =
    marked_header columns sweep.swept_keys ++ lines_of_settings columns (widths_of sweep.swept_keys) summaries (settings_of sweep.swept_keys) summaries

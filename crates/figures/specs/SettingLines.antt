-- The lines of settings among aligned columns: the values of the keys, and then the figures.
use Rattle.std.specs.Prelude.{ℕ, Option, Some, None, ◌-◌, ◌/◌, ◌%◌, List, [], ◌∷◌, ◌++◌, codes, decimal, length, map, flat_map, max, replicate}
use Rattle.std.specs.List.{zip}
use Rattle.std.specs.Option.{option_map_or}
use Rattle.reports.specs.Text.{figure}
use Rattle.incident_figures.specs.declared.setting.DayRates.{DayRates}
use Rattle.incident_figures.specs.declared.setting.IncidentSummary.{IncidentSummary}
use Rattle.incident_figures.specs.Settings.{setting_names}
use Rattle.figures.specs.declared.column_set.ColumnSet.{ColumnSet}
use Rattle.figures.specs.declared.summary.SettingSummary.{SettingSummary}
use Rattle.figures.specs.ColumnSets.{has_revived, has_incidents}
use Rattle.figures.specs.Lines.{where_told}

-- a text, with spaces before it up to a width
abbrev pub padded : ℕ → List ℕ → List ℕ
padded width text = replicate (width - length text) 32 ++ text

-- a number of tenths, with a point
abbrev pub tenths : ℕ → List ℕ
tenths n = decimal (n / 10) ++ codes "." ++ decimal (n % 10)

-- a number of hundredths, with a point
abbrev pub hundredths : ℕ → List ℕ
hundredths n = decimal (n / 100) ++ codes "." ++ decimal (n / 10 % 10) ++ decimal (n % 10)

-- the words over the figures, in the order of their columns; only some tables have a column of members that were taken for alive again, and columns of incidents
abbrev pub first_words : List (List ℕ)
first_words =
    codes "runs" ∷ codes "suspect_p50" ∷ codes "confirm_p50" ∷ codes "confirm_p99" ∷ codes "confirm_greatest" ∷ codes "last_p50" ∷ codes "last_greatest"
    ∷ codes "false_suspect" ∷ codes "thrown_out" ∷ []

abbrev pub last_words : List (List ℕ)
last_words = codes "runs_with" ∷ codes "share_low" ∷ codes "share_high" ∷ codes "messages" ∷ []

abbrev pub some_words : ColumnSet → List (List ℕ)
some_words columns = where_told (has_revived columns) (codes "revived" ∷ []) ++ where_told (has_incidents columns) setting_names

abbrev pub figure_words : ColumnSet → List (List ℕ)
figure_words columns = first_words ++ (some_words columns ++ last_words)

-- the figures of a setting, in that order
abbrev pub first_texts : SettingSummary → List (List ℕ)
first_texts setting =
    decimal setting.runs ∷ figure setting.suspect_p50 ∷ figure setting.confirm_p50 ∷ figure setting.confirm_p99 ∷ figure setting.confirm_greatest ∷ figure setting.last_p50 ∷ figure setting.last_greatest
    ∷ hundredths setting.false_suspect ∷ decimal setting.thrown_out ∷ []

abbrev pub last_texts : SettingSummary → List (List ℕ)
last_texts setting =
    decimal setting.runs_with ∷ tenths setting.share_low ∷ tenths setting.share_high ∷ option_map_or hundredths setting.messages (codes "-") ∷ []

-- a dash stands for what isn't there
abbrev pub day_texts : Option DayRates → List (List ℕ)
day_texts (Some day) = hundredths day.rate ∷ hundredths day.low ∷ hundredths day.high ∷ []
day_texts None = codes "-" ∷ codes "-" ∷ codes "-" ∷ []

abbrev pub incident_texts : Option IncidentSummary → List (List ℕ)
incident_texts (Some incidents) = hundredths incidents.alarms ∷ decimal incidents.deaths ∷ decimal incidents.deaths_well ∷ day_texts incidents.day
incident_texts None = codes "-" ∷ codes "-" ∷ codes "-" ∷ day_texts None

abbrev pub some_texts : ColumnSet → SettingSummary → List (List ℕ)
some_texts columns setting = where_told (has_revived columns) (decimal setting.revived ∷ []) ++ where_told (has_incidents columns) (incident_texts setting.incidents)

abbrev pub figure_texts : ColumnSet → SettingSummary → List (List ℕ)
figure_texts columns setting = first_texts setting ++ (some_texts columns setting ++ last_texts setting)

-- the widths of the columns of the figures: those of their words, and 8 at least
abbrev pub widths_of : List (List ℕ) → List ℕ
widths_of words = map (λ word. max 8 (length word)) words

abbrev pub figure_widths : ColumnSet → List ℕ
figure_widths columns = widths_of (figure_words columns)

-- texts in these widths, separated by two spaces
abbrev pub cells_aligned : List ℕ → List (List ℕ) → List ℕ
cells_aligned (width ∷ widths) (text ∷ texts) = padded width text ++ flat_map (λ cell. codes "  " ++ padded cell.0 cell.1) (zip widths texts)
cells_aligned _ _ = []

-- the same as a line, with a line feed
abbrev pub aligned : List ℕ → List (List ℕ) → List ℕ
aligned widths texts = cells_aligned widths texts ++ codes "\n"

-- the words over the columns: the keys that are set, in widths that their values have too, and then the figures
abbrev pub setting_header : ColumnSet → List ℕ → List (List ℕ) → List ℕ
setting_header columns widths keys = aligned (widths ++ figure_widths columns) (keys ++ figure_words columns)

-- the line of a setting with these values of the keys
abbrev pub setting_line : ColumnSet → List ℕ → List (List ℕ) → SettingSummary → List ℕ
setting_line columns widths values setting = aligned (widths ++ figure_widths columns) (values ++ figure_texts columns setting)

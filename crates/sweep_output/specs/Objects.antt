-- The settings of a sweep as JSON objects, each on a line of its own.
use Rattle.std.specs.Prelude.{◌≡◌, ℕ, ◌+◌, ◌==◌, List, [], ◌∷◌, ◌++◌, Bool, true, false, Option, Some, None, codes, decimal, length, map, if◌then◌else◌}
use Rattle.std.specs.List.{join_with_byte, zip}
use Rattle.std.specs.Option.{option_map_or}
use Rattle.sweep_plan.specs.Keys.{key_name}
use Rattle.sweep_plan.specs.Values.{value_text}
use Rattle.sweep_plan.specs.Sweep.{KeyValues}
use Rattle.sweep_plan.specs.Settings.{settings_of}
use Rattle.sweep_plan.specs.declared.choice.Choice.{Choice}
use Rattle.figures.specs.declared.column_set.ColumnSet.{ColumnSet}
use Rattle.figures.specs.ColumnSets.{has_revived, has_incidents}
use Rattle.figures.specs.Lines.{where_told}
use Rattle.figures.specs.SettingLines.{first_words, hundredths, last_words, tenths}
use Rattle.figures.specs.declared.summary.SettingSummary.{SettingSummary}
use Rattle.incident_figures.specs.declared.setting.DayRates.{DayRates}
use Rattle.incident_figures.specs.declared.setting.IncidentSummary.{IncidentSummary}
use Rattle.goals.specs.Front.{is_on_front}
use Rattle.goals.specs.Wants.{IsBestOf, may_meet, meets}
use Rattle.goals.specs.declared.want.Want.{Want}

-- a member: its name in quotes, a colon and its value
unfoldable pub member : List ℕ → List ℕ → List ℕ
member name value = codes "\"" ++ (name ++ (codes "\":" ++ value))

abbrev pub truth : Bool → List ℕ
truth true = codes "true"
truth false = codes "false"

-- what isn't there is null
abbrev pub or_null : (ℕ → List ℕ) → Option ℕ → List ℕ
or_null text figure = option_map_or text figure (codes "null")

-- the keys that are set, each with its value, a number or a switch
abbrev pub choice_member : Choice → List ℕ
choice_member chosen = member (key_name chosen.key) (value_text chosen.value)

-- The figures of a setting, in the order of the columns of its line: times in ticks, shares in percent, rates with two digits behind the point.
abbrev pub first_figures : SettingSummary → List (List ℕ)
first_figures setting =
    decimal setting.runs ∷ or_null decimal setting.suspect_p50 ∷ or_null decimal setting.confirm_p50 ∷ or_null decimal setting.confirm_p99 ∷ or_null decimal setting.confirm_greatest
    ∷ or_null decimal setting.last_p50 ∷ or_null decimal setting.last_greatest ∷ hundredths setting.false_suspect ∷ decimal setting.thrown_out ∷ []

abbrev pub last_figures : SettingSummary → List (List ℕ)
last_figures setting = decimal setting.runs_with ∷ tenths setting.share_low ∷ tenths setting.share_high ∷ or_null hundredths setting.messages ∷ []

-- each with the word over its column
abbrev pub named : List (List ℕ) → List (List ℕ) → List (List ℕ)
named words figures = map (λ told. member told.0 told.1) (zip words figures)

unfoldable pub first_members : SettingSummary → List (List ℕ)
first_members setting = named first_words (first_figures setting)

unfoldable pub last_members : SettingSummary → List (List ℕ)
last_members setting = named last_words (last_figures setting)

-- what isn't there is null
unfoldable pub day_members : Option DayRates → List (List ℕ)
day_members (Some day) = member (codes "deaths_day") (hundredths day.rate) ∷ member (codes "day_low") (hundredths day.low) ∷ member (codes "day_high") (hundredths day.high) ∷ []
day_members None = member (codes "deaths_day") (codes "null") ∷ member (codes "day_low") (codes "null") ∷ member (codes "day_high") (codes "null") ∷ []

unfoldable pub incident_members : Option IncidentSummary → List (List ℕ)
incident_members (Some incidents) =
    member (codes "alarms") (hundredths incidents.alarms) ∷ member (codes "deaths") (decimal incidents.deaths)
    ∷ member (codes "deaths_well") (decimal incidents.deaths_well) ∷ day_members incidents.day
incident_members None = member (codes "alarms") (codes "null") ∷ member (codes "deaths") (codes "null") ∷ member (codes "deaths_well") (codes "null") ∷ day_members None

-- those that only some tables have
unfoldable pub some_members : ColumnSet → SettingSummary → List (List ℕ)
some_members columns setting =
    where_told (has_revived columns) (member (codes "revived") (decimal setting.revived) ∷ []) ++ where_told (has_incidents columns) (incident_members setting.incidents)

unfoldable pub figure_members : ColumnSet → SettingSummary → List (List ℕ)
figure_members columns setting = first_members setting ++ (some_members columns setting ++ last_members setting)

-- what a setting answers to what is wanted
abbrev pub answer_word : List Want → SettingSummary → List ℕ
answer_word wants setting = if meets wants setting then codes "\"yes\"" else (if may_meet wants setting then codes "\"may\"" else codes "\"no\"")

-- that, and whether it is the best, where anything is wanted
abbrev pub wanted_members : List Want → Bool → SettingSummary → List (List ℕ)
wanted_members wants best setting = if length wants == 0 then [] else member (codes "meets") (answer_word wants setting) ∷ member (codes "best") (truth best) ∷ []

-- the members of a setting among all: its choices, its figures, whether no other beats it, and what it answers
abbrev pub members_of : ColumnSet → List Want → List SettingSummary → Bool → List Choice → SettingSummary → List (List ℕ)
members_of columns wants all best chosen setting =
    map choice_member chosen ++ (figure_members columns setting ++ (member (codes "front") (truth (is_on_front setting all)) ∷ wanted_members wants best setting))

-- the members with commas between them, in braces, on a line
unfoldable pub object_line : List (List ℕ) → List ℕ
object_line members = codes "{" ++ (join_with_byte 44 members ++ codes "}\n")

-- the best setting stands at this place
abbrev pub is_at : Option ℕ → ℕ → Bool
is_at None place = false
is_at (Some best) place = best == place

-- the lines of settings of these swept keys and summaries, of which the first has this place among all
abbrev pub lines_from : (ℕ → List Choice → SettingSummary → List ℕ) → ℕ → List (List Choice) → List SettingSummary → List ℕ
lines_from line place (chosen ∷ more) (setting ∷ settings) = line place chosen setting ++ lines_from line (place + 1) more settings
lines_from line place _ _ = []

-- the line of a setting
abbrev pub setting_object : ColumnSet → List Want → List SettingSummary → Option ℕ → ℕ → List Choice → SettingSummary → List ℕ
setting_object columns wants all best place chosen setting = object_line (members_of columns wants all (is_at best place) chosen setting)

-- those of all settings
abbrev pub objects_text : ColumnSet → List KeyValues → List Want → List SettingSummary → Option ℕ → List ℕ
objects_text columns swept_keys wants settings best = lines_from (setting_object columns wants settings best) 0 (settings_of swept_keys) settings

-- the text has a line for each setting, and says which of them is best
pub record TellsObjects (columns : ColumnSet) (swept_keys : List KeyValues) (wants : List Want) (settings : List SettingSummary) (text : List ℕ) : Type 0 where
  pub best : Option ℕ
  pub chosen : IsBestOf wants settings best
  pub told : text ≡ objects_text columns swept_keys wants settings best

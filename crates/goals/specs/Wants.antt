-- What is wanted of a setting, whether it is met, and which setting is best.
use Rattle.std.specs.Prelude.{◌≡◌, ◌≤◌, ◌<◌, ◌^◌, ℕ, ◌*◌, ◌/◌, Bool, true, false, not, ◌&&◌, ◌||◌, nat_le, nat_lt, List, [], ◌∷◌, ◌-◌, Option, Some, None, slice_get, if◌then◌else◌}
use Rattle.std.specs.List.{list_any}
use Rattle.std.specs.Option.{option_map, option_map_or}
use Rattle.incident_figures.specs.declared.setting.DayRates.{DayRates}
use Rattle.incident_figures.specs.declared.setting.IncidentSummary.{IncidentSummary}
use Rattle.figures.specs.declared.summary.SettingSummary.{SettingSummary}
use Rattle.goals.specs.declared.statistic.Statistic.{Statistic}
use Rattle.goals.specs.declared.statistic.Statistic.TheVariants.{Out, DeathsDay}
use Rattle.goals.specs.declared.want.Want.{Want}
use Rattle.goals.specs.Statistics.{figure_of, parts_of}
use Rattle.goals.specs.Bounds.{is_up_to, is_past, runs_that_tell}
use Rattle.goals.specs.Front.{has_crash, is_no_more_often, no_later}

-- a setting has at most 1,000,000 runs, and no more of them with a false death than there are
pub record HasFewRuns (setting : SettingSummary) : Type 0 where
  pub few : setting.runs ≤ 1000000
  pub within : setting.runs_with ≤ setting.runs

-- a bound, in millionths, is far below what numbers hold
abbrev pub IsBounded : Want → Type 0
IsBounded want = want.most < 2 ^ 100

-- a figure is up to a bound in millionths; where there is none, as the time of a crash that wasn't detected, it is past any
abbrev pub is_figure_up_to : Statistic → ℕ → SettingSummary → Bool
is_figure_up_to statistic most setting = option_map_or (λ figure. nat_le figure (most * parts_of statistic / 1000000)) (figure_of statistic setting) false

-- the false deaths of a day, with their interval in hundredths, where they are known
abbrev pub day_in : Option IncidentSummary → Option DayRates
day_in (Some incidents) = incidents.day
day_in None = None

-- the whole interval is up to a bound in millionths; where there is none it is past any
abbrev pub is_day_up_to : ℕ → SettingSummary → Bool
is_day_up_to most setting = option_map_or (λ day. nat_le day.high (most * 100 / 1000000)) (day_in setting.incidents) false

-- it is past the bound
abbrev pub is_day_past : ℕ → SettingSummary → Bool
is_day_past most setting = option_map_or (λ day. nat_lt (most * 100 / 1000000) day.low) (day_in setting.incidents) true

-- the setting shows that the statistic is at most the bound: of `out` and of `deaths_day` its whole interval, else the figure itself
abbrev pub shows : Statistic → ℕ → SettingSummary → Bool
shows Out most setting = is_up_to most setting.runs_with setting.runs
shows DeathsDay most setting = is_day_up_to most setting
shows statistic most setting = is_figure_up_to statistic most setting

-- the setting shows that it is more
abbrev pub refutes : Statistic → ℕ → SettingSummary → Bool
refutes Out most setting = is_past most setting.runs_with setting.runs
refutes DeathsDay most setting = is_day_past most setting
refutes statistic most setting = not (is_figure_up_to statistic most setting)

-- the setting shows that it meets all that is wanted
abbrev pub meets : List Want → SettingSummary → Bool
meets wants setting = not (list_any (λ want. not (shows want.statistic want.most setting)) wants)

-- it may meet all, but doesn't show it yet
abbrev pub may_meet : List Want → SettingSummary → Bool
may_meet wants setting = not (meets wants setting) && not (list_any (λ want. refutes want.statistic want.most setting) wants)

-- how many more runs would show it, if the share of runs with a false death stays; of `deaths_day` it isn't said
abbrev pub more_of : Statistic → ℕ → SettingSummary → Option ℕ
more_of DeathsDay most setting = None
more_of _ most setting = option_map (λ runs. runs - setting.runs) (runs_that_tell most setting.runs_with setting.runs)

-- that of the first that is wanted and not shown
abbrev pub more_runs : List Want → SettingSummary → Option ℕ
more_runs [] setting = None
more_runs (want ∷ wants) setting =
    if shows want.statistic want.most setting then more_runs wants setting
    else more_of want.statistic want.most setting

-- one setting is better than another: it confirms sooner by the median, or as soon with fewer messages
abbrev pub is_sooner : SettingSummary → SettingSummary → Bool
is_sooner a b = not (no_later b.confirm_p50 a.confirm_p50) || (no_later a.confirm_p50 b.confirm_p50 && not (no_later b.messages a.messages))

-- where no run of the sweep has a crash: a lesser share of its runs has a false death, or as great a one with fewer messages
abbrev pub is_safer : SettingSummary → SettingSummary → Bool
is_safer a b = not (is_no_more_often b a) || (is_no_more_often a b && not (no_later b.messages a.messages))

abbrev pub is_better : Bool → SettingSummary → SettingSummary → Bool
is_better crashed a b = if crashed then is_sooner a b else is_safer a b

-- the setting meets all that is wanted, and of the others that do none is better
abbrev pub is_best : List Want → List SettingSummary → SettingSummary → Bool
is_best wants all setting = meets wants setting && not (list_any (λ other. meets wants other && is_better (has_crash all) other setting) all)

-- the first setting that is best stands at this place
pub record IsFirstBest (wants : List Want) (all : List SettingSummary) (place : ℕ) : Type 0 where
  pub setting : SettingSummary
  pub there : slice_get all place ≡ Some setting
  pub best : is_best wants all setting ≡ true
  pub first : (earlier : ℕ) (other : SettingSummary) → earlier < place → slice_get all earlier ≡ Some other → is_best wants all other ≡ false

-- which setting is best, if any is
abbrev pub IsBestOf : List Want → List SettingSummary → Option ℕ → Type 0
IsBestOf wants all None = list_any (is_best wants all) all ≡ false
IsBestOf wants all (Some place) = IsFirstBest wants all place

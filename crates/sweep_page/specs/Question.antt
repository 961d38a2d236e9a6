-- What is wanted of a setting, and the answer.
use Rattle.std.specs.Prelude.{ℕ, Bool, true, false, not, ◌==◌, if◌then◌else◌, List, [], ◌∷◌, ◌++◌, Option, Some, None, codes, decimal, find, length, slice_get}
use Rattle.std.specs.List.{flat_map, list_any, range_with_len}
use Rattle.std.specs.Option.{option_map_or}
use Rattle.goals.specs.Wants.{may_meet, meets, more_runs}
use Rattle.goals.specs.declared.statistic.Statistic.{Statistic}
use Rattle.goals.specs.declared.statistic.Statistic.TheVariants.{DeathsDay}
use Rattle.goals.specs.declared.want.Want.{Want}
use Rattle.sweep_plan.specs.Sweep.{KeyValues}
use Rattle.drawing.specs.Escaped.{markup}
use Rattle.drawing.specs.Shapes.{figure_opening, figure_end}
use Rattle.figures.specs.declared.summary.SettingSummary.{SettingSummary}
use Rattle.sweep_cells.specs.Words.{number_words, swept_keys_at}
use Rattle.sweep_page.specs.Best.{best_more_at}
use Rattle.sweep_page.specs.Goals.{goal_item}
use Rattle.sweep_page.specs.Items.{caution_at, item_at}
use Rattle.sweep_page.specs.declared.front_points.FrontPoint.{FrontPoint}
use Rattle.ticks.specs.declared.tick.Tick.{Tick}

-- all that is wanted, in words
unfoldable pub goals_words : List Want → List ℕ
goals_words wants = markup (codes "<p class=\"lead\">Is there a setting that meets all of these goals?</p><ul class=\"goals\">") ++ flat_map goal_item wants ++ markup (codes "</ul>\n")

-- how many more runs would decide whether a setting meets them
unfoldable pub needed_words : ℕ → List ℕ
needed_words more = if more == 1 then codes "</b> more run would decide" else codes "</b> more runs would decide"

unfoldable pub runs_needed : ℕ → List ℕ
runs_needed more = markup (codes "<b>") ++ decimal more ++ markup (needed_words more)

-- of a share that stays as it is
unfoldable pub share_needed : Option ℕ → List ℕ
share_needed more = option_map_or runs_needed more (codes "no number of runs would decide: its share of runs with a false death is the goal itself")

-- of fatal incidents in a day it isn't known
unfoldable pub day_needed : List ℕ
day_needed = codes "the interval of its fatal incidents in a day isn't narrow enough yet; how many more runs would decide isn't known"

unfoldable pub more_needed : Bool → Option ℕ → List ℕ
more_needed of_day more = if of_day then day_needed else share_needed more

-- the first goal that a setting doesn't show is of its fatal incidents in a day
abbrev pub is_day : Statistic → Bool
is_day DeathsDay = true
is_day _ = false

abbrev pub is_of_day : List Want → SettingSummary → Bool
is_of_day wants setting = option_map_or (λ want. is_day want.statistic) (find (λ want. not (meets (want ∷ []) setting)) wants) false

-- a setting that may meet them
unfoldable pub open_item : List KeyValues → ℕ → Bool → Option ℕ → List ℕ
open_item swept_keys place of_day more =
    markup (codes "<li class=\"unknown\"><span class=\"number\">") ++ number_words place ++ markup (codes "</span><code>") ++ swept_keys_at swept_keys place ++ markup (codes "</code><span>")
    ++ more_needed of_day more ++ markup (codes "</span></li>")

-- nothing where a setting doesn't
unfoldable pub open_item_of : List KeyValues → List Want → ℕ → SettingSummary → List ℕ
open_item_of swept_keys wants place setting = if may_meet wants setting then open_item swept_keys place (is_of_day wants setting) (more_runs wants setting) else []

-- that of the setting at a place
unfoldable pub open_item_at : List KeyValues → List Want → List SettingSummary → ℕ → List ℕ
open_item_at swept_keys wants settings place = option_map_or (open_item_of swept_keys wants place) (slice_get settings place) []

-- some setting may meet all that is wanted
abbrev pub is_open : List Want → List SettingSummary → Bool
is_open wants settings = list_any (may_meet wants) settings

-- those that may
unfoldable pub open_answer : List KeyValues → List Want → List SettingSummary → List ℕ
open_answer swept_keys wants settings =
    markup (codes "<p class=\"lead\">No setting is shown to meet all of this yet. These may; so many more runs of each would decide, if its share of runs with a false death stays as it is:</p><ol class=\"answers\">")
    ++ flat_map (open_item_at swept_keys wants settings) (range_with_len 0 (length settings)) ++ markup (codes "</ol>\n")

-- or none can
unfoldable pub no_answer : List ℕ
no_answer = codes "<p class=\"lead\">No. Each setting that was tried is shown to miss one of these goals.</p>\n"

unfoldable pub unmet_answer : List KeyValues → List Want → List SettingSummary → List ℕ
unmet_answer swept_keys wants settings = if is_open wants settings then open_answer swept_keys wants settings else no_answer

-- the best of those that meet them, whether it is safe, which are as good, and why the trade-off doesn't list it
unfoldable pub best_answer : Option Tick → Bool → List KeyValues → List Want → List SettingSummary → List Bool → List FrontPoint → ℕ → List ℕ
best_answer time crashed swept_keys wants settings front points place =
    markup (codes "<p class=\"lead\">Yes. Of the settings that are shown to meet all of this, the best is</p><ol class=\"answers\">") ++ item_at time crashed swept_keys settings place ++ markup (codes "</ol>\n")
    ++ caution_at settings place ++ best_more_at crashed swept_keys wants settings front points place

-- the answer, where the best setting, if there is one, stands at this place
abbrev pub answer : Option Tick → Bool → List KeyValues → List Want → List SettingSummary → List Bool → List FrontPoint → Option ℕ → List ℕ
answer time crashed swept_keys wants settings front points (Some place) = best_answer time crashed swept_keys wants settings front points place
answer time crashed swept_keys wants settings front points None = unmet_answer swept_keys wants settings

-- the section
unfoldable pub question_figure : Option Tick → Bool → List KeyValues → List Want → List SettingSummary → List Bool → List FrontPoint → Option ℕ → List ℕ
question_figure time crashed swept_keys wants settings front points best =
    figure_opening (codes "answer") (codes "The question and its answer") ++ goals_words wants ++ answer time crashed swept_keys wants settings front points best ++ figure_end

-- nothing where nothing is wanted
unfoldable pub question : Option Tick → Bool → List KeyValues → List Want → List SettingSummary → List Bool → List FrontPoint → Option ℕ → List ℕ
question time crashed swept_keys wants settings front points best = if length wants == 0 then [] else question_figure time crashed swept_keys wants settings front points best

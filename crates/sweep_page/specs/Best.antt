-- What is said of the best setting behind its figures: which settings are as good, and why the trade-off doesn't list it, where it doesn't.
use Rattle.std.specs.Prelude.{ℕ, Bool, ◌==◌, if◌then◌else◌, take, List, [], ◌++◌, codes, length, slice_get}
use Rattle.std.specs.List.{list_any}
use Rattle.std.specs.Option.{option_map_or}
use Rattle.goals.specs.declared.want.Want.{Want}
use Rattle.sweep_plan.specs.Sweep.{KeyValues}
use Rattle.drawing.specs.Escaped.{markup}
use Rattle.figures.specs.declared.summary.SettingSummary.{SettingSummary}
use Rattle.sweep_cells.specs.Words.{count_words}
use Rattle.sweep_page.specs.Others.{as_good, beating, others}
use Rattle.sweep_page.specs.Points.{across_of, is_marked}
use Rattle.sweep_page.specs.declared.front_points.FrontPoint.{FrontPoint}

-- those that are as good
unfoldable pub ties_words : List KeyValues → List ℕ → List ℕ
ties_words swept_keys places =
    markup (codes "<p class=\"ties\">Equally good by these figures: ") ++ count_words (length places) (codes " more setting:") (codes " more settings:") ++ others swept_keys places ++ markup (codes ".</p>\n")

unfoldable pub ties : List KeyValues → List ℕ → List ℕ
ties swept_keys places = if length places == 0 then [] else ties_words swept_keys places

-- those that beat it, which meet less or are dearer
unfoldable pub one_beats : Bool → List ℕ
one_beats crashed =
    if crashed then codes " other setting is at least as fast and at least as safe, and better in one of the two. It isn't shown to meet all of this, or it is as fast and sends no fewer messages:"
    else codes " other setting sends at most as many messages and is at least as safe, and is better in one of the two. It isn't shown to meet all of this:"

unfoldable pub several_beat : Bool → List ℕ
several_beat crashed =
    if crashed then codes " other settings are at least as fast and at least as safe, and better in one of the two. Each isn't shown to meet all of this, or it is as fast and sends no fewer messages:"
    else codes " other settings send at most as many messages and are at least as safe, and are better in one of the two. None of them is shown to meet all of this:"

unfoldable pub beaten_words : Bool → List KeyValues → List ℕ → List ℕ
beaten_words crashed swept_keys places =
    markup (codes "<p class=\"ties\">The trade-off doesn't list it, since ") ++ count_words (length places) (one_beats crashed) (several_beat crashed) ++ others swept_keys places ++ markup (codes ".</p>\n")

unfoldable pub beaten : Bool → List KeyValues → List ℕ → List ℕ
beaten crashed swept_keys places = if length places == 0 then [] else beaten_words crashed swept_keys places

-- it stands nowhere across
unfoldable pub unplaced_words : Bool → List ℕ
unplaced_words crashed =
    if crashed then codes "<p class=\"ties\">The trade-off doesn't list it, since it confirms fewer than half of its crashes.</p>\n"
    else codes "<p class=\"ties\">The trade-off doesn't list it, since its runs end at moment 0.</p>\n"

-- it is on the front behind those that are listed
unfoldable pub behind_words : Bool → List ℕ
behind_words crashed =
    if crashed then codes "<p class=\"ties\">It is on the front, but the trade-off lists the first 12 settings there, fastest first.</p>\n"
    else codes "<p class=\"ties\">It is on the front, but the trade-off lists the first 12 settings there, fewest messages first.</p>\n"

-- one of the settings that are listed stands at this place
abbrev pub has_place : ℕ → FrontPoint → Bool
has_place place p = p.place == place

abbrev pub is_listed : List FrontPoint → ℕ → Bool
is_listed points place = list_any (has_place place) (take 12 points)

-- why it isn't listed, where it stands somewhere across
unfoldable pub absence_of : Bool → List KeyValues → List SettingSummary → List Bool → SettingSummary → ℕ → List ℕ
absence_of crashed swept_keys settings front best place = if is_marked front place then markup (behind_words crashed) else beaten crashed swept_keys (beating crashed settings best)

unfoldable pub absence : Bool → List KeyValues → List SettingSummary → List Bool → List FrontPoint → SettingSummary → ℕ → List ℕ
absence crashed swept_keys settings front points best place =
    if is_listed points place then [] else option_map_or (λ across. absence_of crashed swept_keys settings front best place) (across_of crashed best) (markup (unplaced_words crashed))

-- both
unfoldable pub best_more : Bool → List KeyValues → List Want → List SettingSummary → List Bool → List FrontPoint → ℕ → SettingSummary → List ℕ
best_more crashed swept_keys wants settings front points place best =
    ties swept_keys (as_good crashed wants settings best place) ++ absence crashed swept_keys settings front points best place

-- nothing where there is no setting at this place
unfoldable pub best_more_at : Bool → List KeyValues → List Want → List SettingSummary → List Bool → List FrontPoint → ℕ → List ℕ
best_more_at crashed swept_keys wants settings front points place = option_map_or (best_more crashed swept_keys wants settings front points place) (slice_get settings place) []

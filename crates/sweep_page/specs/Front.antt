-- The figure of all settings, each by how fast and how safe it is.
use Rattle.std.specs.Prelude.{ℕ, Bool, true, false, fold, ◌+◌, ◌-◌, ◌/◌, ◌^◌, ◌==◌, if◌then◌else◌, min, max, not, List, [], ◌++◌, Option, None, codes, decimal, length, slice_get, unwrap_or}
use Rattle.std.specs.List.{flat_map, range_with_len}
use Rattle.std.specs.Option.{option_map_or}
use Rattle.sweep_plan.specs.Sweep.{KeyValues}
use Rattle.drawing.specs.Axes.{at_ticks, time_across}
use Rattle.drawing.specs.Escaped.{markup}
use Rattle.drawing.specs.Numbers.{place as place_on}
use Rattle.drawing.specs.Rounds.{round_step}
use Rattle.drawing.specs.Shapes.{figure_opening, figure_end, plot_opening, plot_end}
use Rattle.figures.specs.declared.summary.SettingSummary.{SettingSummary}
use Rattle.sweep_cells.specs.Words.{percent_words, rate_words, thousandths, share_of, number_words, swept_keys_at}
use Rattle.sweep_page.specs.Points.{across_of, is_marked}
use Rattle.sweep_cells.specs.Paths.{path_start, path_step}
use Rattle.sweep_cells.specs.Cells.{time_cell}
use Rattle.sweep_page.specs.Table.{share_cells}
use Rattle.sweep_page.specs.declared.front.Reach.{Reach}
use Rattle.sweep_page.specs.declared.front_points.FrontPoint.{FrontPoint}
use Rattle.ticks.specs.declared.tick.Tick.{Tick}

-- the setting that is farthest across; 1 at least
abbrev pub farthest : Bool → List SettingSummary → ℕ
farthest crashed settings = fold (λ (most : ℕ) (setting : SettingSummary). max most (unwrap_or (across_of crashed setting) 0)) 1 settings

-- the greatest upper end of an interval; a percent at least
abbrev pub highest : List SettingSummary → ℕ
highest settings = fold (λ (most : ℕ) (setting : SettingSummary). max most (thousandths setting.share_high)) 10 settings

-- the greatest number of messages; 1 at least
abbrev pub most_messages : List SettingSummary → ℕ
most_messages settings = fold (λ (most : ℕ) (setting : SettingSummary). max most (unwrap_or setting.messages 0)) 1 settings

-- a sixteenth past the farthest setting, that its mark is whole; an axis reaches a billion billions at most
abbrev pub past : ℕ → ℕ
past far = min far (10 ^ 18) + min far (10 ^ 18) / 16

-- how far the plot reaches: across, up, and by the sizes of its dots
unfoldable pub reach_of : Bool → List SettingSummary → Reach
reach_of crashed settings = record { across = past (farthest crashed settings); up = highest settings; messages = most_messages settings; crashed = crashed }

-- the class of what is on the front
unfoldable pub best_class : Bool → List ℕ
best_class best = if best then codes " best" else []

-- the bar of an interval
unfoldable pub interval_bar : List ℕ → ℕ → ℕ → ℕ → List ℕ
interval_bar class at top bottom =
    codes "<path class=\"span" ++ class ++ codes "\" d=\"M" ++ decimal at ++ codes " " ++ decimal top ++ codes "V" ++ decimal bottom ++ codes "\"/>"

-- the dot of a share
unfoldable pub share_dot : List ℕ → ℕ → ℕ → ℕ → List ℕ
share_dot class size at middle =
    codes "<path class=\"point r" ++ decimal size ++ class ++ codes "\" d=\"M" ++ decimal at ++ codes " " ++ decimal middle ++ codes "h0\"/>"

-- the size of a dot, from 1 to 5: in fifths of the greatest number of messages
unfoldable pub size_of : Option ℕ → ℕ → ℕ
size_of messages most = min (min (unwrap_or messages 0) most / (most / 5 + 1)) 4 + 1

-- a setting's bar and dot over where it stands across; heights count from the top
unfoldable pub mark_over : Reach → Bool → SettingSummary → ℕ → List ℕ
mark_over reach best setting across =
    interval_bar (best_class best) (min across reach.across) (reach.up - thousandths setting.share_high) (reach.up - thousandths setting.share_low)
    ++ share_dot (best_class best) (size_of setting.messages reach.messages) (min across reach.across) (reach.up - share_of setting)

-- nothing where it stands nowhere
unfoldable pub setting_mark : Reach → Bool → SettingSummary → List ℕ
setting_mark reach best setting = option_map_or (mark_over reach best setting) (across_of reach.crashed setting) []

-- the setting at a place is on the front where those are asked for, or not on it where the others are
abbrev pub is_among : List Bool → Bool → ℕ → Bool
is_among front best place = if best then is_marked front place else not (is_marked front place)

-- its mark, where it is among these
unfoldable pub mark_at : Reach → List SettingSummary → List Bool → Bool → ℕ → List ℕ
mark_at reach settings front best place = if is_among front best place then option_map_or (setting_mark reach best) (slice_get settings place) [] else []

-- the marks of all settings among these
abbrev pub all_marks : Reach → List SettingSummary → List Bool → Bool → List ℕ
all_marks reach settings front best = flat_map (mark_at reach settings front best) (range_with_len 0 (length settings))

-- the line through the front goes on to a setting; it begins at the first
unfoldable pub joint : Reach → ℕ → FrontPoint → List ℕ
joint reach place p = if place == 0 then path_start (min p.across reach.across) (reach.up - p.share) else path_step (min p.across reach.across) (reach.up - p.share)

-- the one at a place
unfoldable pub joint_at : Reach → List FrontPoint → ℕ → List ℕ
joint_at reach points place = option_map_or (joint reach place) (slice_get points place) []

-- the whole line
unfoldable pub joined : Reach → List FrontPoint → List ℕ
joined reach points =
    markup (codes "<path class=\"joined\" d=\"") ++ flat_map (joint_at reach points) (range_with_len 0 (length points)) ++ markup (codes "\"/>")

-- the number of a setting on the front, beside its dot
unfoldable pub number_mark : Reach → FrontPoint → List ℕ
number_mark reach p =
    markup (codes "<span class=\"number\" aria-hidden=\"true\" style=\"left:") ++ place_on p.across reach.across ++ markup (codes ";bottom:") ++ place_on p.share reach.up
    ++ markup (codes "\">") ++ number_words p.place ++ markup (codes "</span>")

-- a tick of the axis of shares
unfoldable pub share_tick : ℕ → ℕ → List ℕ
share_tick up share = markup (codes "<span style=\"bottom:") ++ place_on share up ++ markup (codes "\">") ++ percent_words share ++ markup (codes "</span>")

-- the axis of shares
unfoldable pub shares_up : ℕ → List ℕ
shares_up up = markup (codes "<div class=\"up\" aria-hidden=\"true\">") ++ at_ticks (share_tick up) up (round_step up 4) ++ markup (codes "</div>")

-- what is across
unfoldable pub unit_words : Bool → List ℕ
unit_words crashed = if crashed then codes "ticks until a crash is first confirmed, median" else codes "messages per member per 100,000 ticks"

-- what a screen reader says of the plot
unfoldable pub plane_words : Bool → List ℕ
plane_words crashed =
    if crashed then codes "Across: the median time until a crash is first confirmed. Up: the share of runs with a false death. The table beneath has the settings on the front."
    else codes "Across: messages per member. Up: the share of runs with a false death. The table beneath has the settings on the front."

-- what the plot is called
unfoldable pub plane_title : Bool → List ℕ
plane_title crashed = if crashed then codes "Every setting by its speed and its safety" else codes "Every setting by its messages and its safety"

-- the plot begins
unfoldable pub plane_opening : Reach → List ℕ
plane_opening reach = plot_opening (codes "cases") reach.across reach.up (plane_title reach.crashed) (plane_words reach.crashed)

-- the plot: the other settings, the line through the front, those on the front, and their numbers
unfoldable pub plane : Reach → List SettingSummary → List Bool → List FrontPoint → List ℕ
plane reach settings front points =
    markup (codes "<div class=\"plane\">") ++ plane_opening reach ++ all_marks reach settings front false ++ joined reach points ++ all_marks reach settings front true ++ plot_end
    ++ flat_map (number_mark reach) points ++ markup (codes "</div>")

-- the cell of a time, where runs have crashes
unfoldable pub confirm_cell : Option Tick → Bool → SettingSummary → List ℕ
confirm_cell time crashed setting = if crashed then time_cell time setting.confirm_p50 else []

-- the row of a setting on the front
unfoldable pub front_row : Option Tick → Bool → List KeyValues → ℕ → SettingSummary → List ℕ
front_row time crashed swept_keys place setting =
    markup (codes "<tr><th scope=\"row\">") ++ number_words place ++ markup (codes "</th><td>") ++ swept_keys_at swept_keys place ++ markup (codes "</td>") ++ confirm_cell time crashed setting
    ++ share_cells setting ++ markup (codes "<td>") ++ rate_words setting.messages ++ markup (codes "</td></tr>")

-- that of a setting by its place
unfoldable pub front_row_of : Option Tick → Bool → List KeyValues → List SettingSummary → FrontPoint → List ℕ
front_row_of time crashed swept_keys settings p = option_map_or (front_row time crashed swept_keys p.place) (slice_get settings p.place) []

-- what its columns are
unfoldable pub heads_opening : List ℕ
heads_opening = codes "<details><summary>The front in numbers</summary><div class=\"wide\"><table><caption>The settings on the front</caption><thead><tr><th scope=\"col\">number</th><th scope=\"col\">setting</th>"

unfoldable pub confirm_head : Bool → List ℕ
confirm_head crashed = if crashed then codes "<th scope=\"col\">confirmed, median</th>" else []

unfoldable pub heads_end : List ℕ
heads_end = codes "<th scope=\"col\">runs with a false death</th><th scope=\"col\">their share</th><th scope=\"col\">95&nbsp;% interval</th><th scope=\"col\">members with a false death per run</th><th scope=\"col\">their 95&nbsp;% interval</th><th scope=\"col\">messages per member per 1,000 ticks</th></tr></thead><tbody>"

-- the figures of the front, folded
unfoldable pub front_table : Option Tick → Bool → List KeyValues → List SettingSummary → List FrontPoint → List ℕ
front_table time crashed swept_keys settings points =
    heads_opening ++ confirm_head crashed ++ heads_end ++ flat_map (front_row_of time crashed swept_keys settings) points ++ markup (codes "</tbody></table></div></details>")

-- what the plot shows, where runs have crashes, and where none has
unfoldable pub speed_words : List ℕ
speed_words = codes "<p class=\"soft\">Each dot is a setting: the further left, the faster; the lower, the safer. Up: the share of runs with a false death, with its 95&nbsp;% interval as a bar. A larger dot sends more messages. The numbered dots, joined by a line, are on the front: no other setting is as good in both and better in one.</p>"

unfoldable pub messages_words : List ℕ
messages_words = codes "<p class=\"soft\">Each dot is a setting: the further left, the fewer messages; the lower, the safer. Up: the share of runs with a false death, with its 95&nbsp;% interval as a bar. The numbered dots, joined by a line, are on the front: no other setting is as good in both and better in one.</p>"

unfoldable pub front_words : Bool → List ℕ
front_words crashed = if crashed then speed_words else messages_words

-- how long a tick lasts is of use where time is across, that is where runs have crashes
abbrev pub time_where : Option Tick → Bool → Option Tick
time_where time crashed = if crashed then time else None

-- what is across
unfoldable pub axis_of : Option Tick → Reach → List ℕ
axis_of time reach = time_across (time_where time reach.crashed) reach.across (unit_words reach.crashed) (codes "time until a crash is first confirmed, median")

-- the plot with its axes
unfoldable pub front_chart : Option Tick → Reach → List SettingSummary → List Bool → List FrontPoint → List ℕ
front_chart time reach settings front points =
    markup (codes "<div class=\"chart\">") ++ shares_up reach.up ++ plane reach settings front points ++ axis_of time reach ++ markup (codes "</div>")

-- what the figure is called
unfoldable pub front_heading : Bool → List ℕ
front_heading crashed = if crashed then codes "Fast or safe: every setting" else codes "Few messages or safe: every setting"

-- the whole figure
unfoldable pub front_figure : Option Tick → Bool → List KeyValues → List SettingSummary → List Bool → List FrontPoint → List ℕ
front_figure time crashed swept_keys settings front points =
    figure_opening (codes "front") (front_heading crashed) ++ front_words crashed ++ front_chart time (reach_of crashed settings) settings front points ++ front_table time crashed swept_keys settings points ++ figure_end

-- nothing where no setting is on the front, since none has a place in the plot then
unfoldable pub front_where : Option Tick → Bool → List KeyValues → List SettingSummary → List Bool → List FrontPoint → List ℕ
front_where time crashed swept_keys settings front points = if length points == 0 then [] else front_figure time crashed swept_keys settings front points

-- The trade-off in words: the settings on the front, the fastest first; where no run has a crash, those of the fewest messages first.
use Rattle.std.specs.Prelude.{ℕ, Bool, ◌-◌, ◌==◌, if◌then◌else◌, min, List, [], ◌++◌, Option, codes, length, slice_get}
use Rattle.std.specs.List.{flat_map, range_with_len}
use Rattle.std.specs.Option.{option_map_or}
use Rattle.sweep_plan.specs.Sweep.{KeyValues, Sweep, setting_count, seed_count}
use Rattle.drawing.specs.Escaped.{markup}
use Rattle.drawing.specs.Numbers.{grouped}
use Rattle.drawing.specs.Shapes.{figure_opening, figure_end}
use Rattle.figures.specs.declared.summary.SettingSummary.{SettingSummary}
use Rattle.sweep_cells.specs.Words.{count_words}
use Rattle.sweep_page.specs.Items.{item_at}
use Rattle.sweep_page.specs.declared.front_points.FrontPoint.{FrontPoint}
use Rattle.ticks.specs.declared.tick.Tick.{Tick}

-- a setting may have fewer seeds where its runs end once its interval is so narrow
unfoldable pub at_most : Option ℕ → List ℕ
at_most until = option_map_or (λ width. markup (codes "at most ")) until []

-- how many settings there are, and how often each ran
unfoldable pub size_words : Sweep → List ℕ
size_words sweep =
    markup (codes "<p class=\"soft\">Settings tried: ") ++ grouped (setting_count sweep.swept_keys) ++ markup (codes ". Seeds for each: ") ++ at_most sweep.until ++ grouped (seed_count sweep.seeds) ++ markup (codes ".</p>\n")

-- the one at a place among those on the front
unfoldable pub told_at : Option Tick → Bool → List KeyValues → List SettingSummary → List FrontPoint → ℕ → List ℕ
told_at time crashed swept_keys settings points place = option_map_or (λ (p : FrontPoint). item_at time crashed swept_keys settings p.place) (slice_get points place) []

-- what the list of them is, where runs have crashes, and where none has
unfoldable pub speed_opening : List ℕ
speed_opening = codes "<p class=\"lead\">These settings confirm half of their crashes, and no other setting beats them: none is at least as fast and at least as safe, and better in one of the two. The further down, the slower and the safer; some may be equal in both.</p>"

unfoldable pub messages_opening : List ℕ
messages_opening = codes "<p class=\"lead\">No run has a crash, so settings are compared by their false deaths and their messages. No other setting beats these: none sends at most as many messages and is at least as safe, and is better in one of the two. The further down, the more messages and the safer; some may be equal in both.</p>"

unfoldable pub front_opening : Bool → List ℕ
front_opening crashed = if crashed then speed_opening else messages_opening

-- what the words for how safe a setting is mean
unfoldable pub safety_words : List ℕ
safety_words = codes "<p class=\"soft\">A false death: a member that has neither crashed nor left is declared dead. Safe: the whole 95&nbsp;% interval of the share of runs with a false death is at most 5&nbsp;%. Unsafe: the whole interval is above 5&nbsp;%. Unknown: only a part of it is, so more runs would decide. A range in parentheses: the 95&nbsp;% interval.</p><ol class=\"answers\">"

-- which are listed, and how many more there are
unfoldable pub listed_words : Bool → List ℕ
listed_words crashed = if crashed then codes "<p class=\"soft\">These are the first 12 settings on the front, fastest first. " else codes "<p class=\"soft\">These are the first 12 settings on the front, fewest messages first. "

unfoldable pub more_words : Bool → ℕ → List ℕ
more_words crashed more =
    markup (listed_words crashed) ++ count_words more (codes " more is") (codes " more are") ++ markup (codes " on it: all have a star in the table of all settings.</p>\n")

-- nothing where there are none
unfoldable pub untold_words : Bool → ℕ → List ℕ
untold_words crashed more = if more == 0 then [] else more_words crashed more

-- the first twelve of them, and how many more there are
unfoldable pub told_words : Option Tick → Bool → List KeyValues → List SettingSummary → List FrontPoint → List ℕ
told_words time crashed swept_keys settings points =
    front_opening crashed ++ safety_words ++ flat_map (told_at time crashed swept_keys settings points) (range_with_len 0 (min (length points) 12)) ++ markup (codes "</ol>\n") ++ untold_words crashed (length points - 12)

-- where there are none: no setting confirms half of its crashes, or none has moments in which messages could be sent
unfoldable pub unconfirmed_words : List ℕ
unconfirmed_words = codes "<p class=\"lead\">No setting confirms half of its crashes, so none is listed or plotted by its speed.</p>\n"

unfoldable pub momentless_words : List ℕ
momentless_words = codes "<p class=\"lead\">Each run ends at moment 0, so there is nothing to compare or to plot.</p>\n"

unfoldable pub none_words : Bool → List ℕ
none_words crashed = if crashed then unconfirmed_words else momentless_words

unfoldable pub front_words_of : Option Tick → Bool → List KeyValues → List SettingSummary → List FrontPoint → List ℕ
front_words_of time crashed swept_keys settings points = if length points == 0 then none_words crashed else told_words time crashed swept_keys settings points

-- the section
unfoldable pub summary : Option Tick → Bool → Sweep → List SettingSummary → List FrontPoint → List ℕ
summary time crashed sweep settings points =
    figure_opening (codes "trade-off") (codes "The trade-off") ++ size_words sweep ++ front_words_of time crashed sweep.swept_keys settings points ++ figure_end

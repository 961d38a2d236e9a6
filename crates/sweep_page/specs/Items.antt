-- A setting in a list: its number and its values, how fast it is, how safe, and what it costs.
use Rattle.std.specs.Prelude.{ℕ, Bool, nat_le, nat_lt, if◌then◌else◌, List, [], ◌++◌, codes, slice_get, Option, None}
use Rattle.std.specs.Option.{option_map_or}
use Rattle.sweep_plan.specs.Sweep.{KeyValues}
use Rattle.drawing.specs.Escaped.{markup}
use Rattle.figures.specs.declared.summary.SettingSummary.{SettingSummary}
use Rattle.sweep_cells.specs.Words.{hundredths_words, hundredths_interval_words, interval_words, number_words, rate_words, runs_words, swept_keys_at, thousandths, lasting_words, time_words}
use Rattle.ticks.specs.declared.tick.Tick.{Tick}

-- which of three a setting is, by the 95 % interval of its share of runs with a false death, with its ends as they are printed:
-- safe where the whole interval is at most 5 %, unsafe where all of it is above, and unknown else
unfoldable pub safety : SettingSummary → List ℕ
safety setting = if nat_le (thousandths setting.share_high) 50 then codes "safe" else (if nat_lt 50 (thousandths setting.share_low) then codes "unsafe" else codes "unknown")

-- what is said of the best setting, where it isn't safe
unfoldable pub caution_words : SettingSummary → List ℕ
caution_words setting =
    if nat_le (thousandths setting.share_high) 50 then []
    else (if nat_lt 50 (thousandths setting.share_low) then codes "<p class=\"lead\">But it is unsafe: the whole 95&nbsp;% interval of its share of runs with a false death is above 5&nbsp;%. The goals allow that.</p>\n"
    else codes "<p class=\"lead\">Whether it is safe is unknown: the 95&nbsp;% interval of its share of runs with a false death reaches above 5&nbsp;%. The goals allow that.</p>\n")

unfoldable pub caution : SettingSummary → List ℕ
caution setting = markup (caution_words setting)

-- nothing where there is none
unfoldable pub caution_at : List SettingSummary → ℕ → List ℕ
caution_at settings place = option_map_or caution (slice_get settings place) []

-- an item begins by how safe its setting is, and by the number of its setting
unfoldable pub item_opening : List ℕ → ℕ → List ℕ
item_opening class place = markup (codes "<li class=\"") ++ markup class ++ markup (codes "\"><span class=\"number\">") ++ number_words place ++ markup (codes "</span><code>")

-- how fast it is
unfoldable pub confirm_span : Option Tick → SettingSummary → List ℕ
confirm_span time setting = markup (codes "<span>first confirmed after <b>") ++ time_words None setting.confirm_p50 ++ markup (codes "</b> ticks") ++ lasting_words time setting.confirm_p50 ++ markup (codes ", median</span>")

-- where no run has a crash: how many false deaths it has, with their interval
unfoldable pub deaths_span : SettingSummary → List ℕ
deaths_span setting =
    markup (codes "<span><b>") ++ hundredths_words setting.deaths ++ markup (codes "</b> members with a false death per run (") ++ hundredths_interval_words setting.deaths_low setting.deaths_high ++ markup (codes ")</span>")

unfoldable pub speed_span : Option Tick → Bool → SettingSummary → List ℕ
speed_span time crashed setting = if crashed then confirm_span time setting else deaths_span setting

-- how safe it is
unfoldable pub share_span : SettingSummary → List ℕ
share_span setting =
    markup (codes "<span>a false death in <b>") ++ runs_words setting ++ markup (codes "</b> runs (") ++ interval_words (thousandths setting.share_low) (thousandths setting.share_high) ++ markup (codes ")</span>")

-- what it costs
unfoldable pub cost_span : SettingSummary → List ℕ
cost_span setting = markup (codes "<span><b>") ++ rate_words setting.messages ++ markup (codes "</b> messages per member per 1,000 ticks</span>")

-- an item ends by the word for how safe it is
unfoldable pub item_end : List ℕ → List ℕ
item_end class = markup (codes "<b class=\"safety\">") ++ markup class ++ markup (codes "</b></li>")

-- the setting at a place
unfoldable pub item : Option Tick → Bool → List KeyValues → ℕ → SettingSummary → List ℕ
item time crashed swept_keys place setting =
    item_opening (safety setting) place ++ swept_keys_at swept_keys place ++ markup (codes "</code>") ++ speed_span time crashed setting ++ share_span setting ++ cost_span setting ++ item_end (safety setting)

-- nothing where there is none
unfoldable pub item_at : Option Tick → Bool → List KeyValues → List SettingSummary → ℕ → List ℕ
item_at time crashed swept_keys settings place = option_map_or (item time crashed swept_keys place) (slice_get settings place) []

-- Figures as words.
use Rattle.std.specs.Prelude.{ℕ, ◌+◌, ◌-◌, ◌*◌, ◌/◌, ◌%◌, ◌^◌, ◌==◌, if◌then◌else◌, min, max, List, [], ◌++◌, Option, codes, decimal, length, slice_get}
use Rattle.std.specs.Option.{option_map_or}
use Rattle.sweep_plan.specs.Settings.{settings_of, choices_text}
use Rattle.sweep_plan.specs.Sweep.{KeyValues}
use Rattle.sweep_plan.specs.declared.choice.Choice.{Choice}
use Rattle.drawing.specs.Escaped.{escaped, markup}
use Rattle.drawing.specs.Lengths.{lasting, time_alone}
use Rattle.drawing.specs.Numbers.{grouped}
use Rattle.figures.specs.declared.summary.SettingSummary.{SettingSummary}
use Rattle.ticks.specs.declared.tick.Tick.{Tick}

-- a time: how long so many ticks last where that is known, else their number, or a dash where there is none
unfoldable pub time_words : Option Tick → Option ℕ → List ℕ
time_words time ticks = option_map_or (time_alone time) ticks (codes "-")

-- how long so many ticks last, where that is known; nothing where there is no number of them
abbrev pub lasting_words : Option Tick → Option ℕ → List ℕ
lasting_words time ticks = option_map_or (lasting time) ticks []

-- a whole number of percent
unfoldable pub whole_percent : ℕ → List ℕ
whole_percent n = decimal n ++ codes "&nbsp;%"

-- a number of percent with its tenths
unfoldable pub tenth_percent : ℕ → ℕ → List ℕ
tenth_percent n tenth = decimal n ++ codes "." ++ decimal tenth ++ codes "&nbsp;%"

-- a number of thousandths as percent, with a tenth where it isn't whole
unfoldable pub percent_words : ℕ → List ℕ
percent_words n = if n % 10 == 0 then whole_percent (n / 10) else tenth_percent (n / 10) (n % 10)

-- a number of hundredths
unfoldable pub hundredths_words : ℕ → List ℕ
hundredths_words n = decimal (n / 100) ++ codes "." ++ decimal (n / 10 % 10) ++ decimal (n % 10)

-- messages a member and 1,000 ticks, in hundredths, or a dash where there are none
unfoldable pub rate_words : Option ℕ → List ℕ
rate_words rate = option_map_or hundredths_words rate (codes "-")

-- how many of a setting's runs have a false death
unfoldable pub runs_words : SettingSummary → List ℕ
runs_words setting = grouped setting.runs_with ++ markup (codes " of ") ++ grouped setting.runs

-- the words for one thing, or for several
unfoldable pub noun_words : ℕ → List ℕ → List ℕ → List ℕ
noun_words n one many = if n == 1 then markup one else markup many

-- a number of things
unfoldable pub count_words : ℕ → List ℕ → List ℕ → List ℕ
count_words n one many = grouped n ++ noun_words n one many

-- an interval of shares, in thousandths
unfoldable pub interval_words : ℕ → ℕ → List ℕ
interval_words low high = percent_words low ++ markup (codes " to ") ++ percent_words high

-- an interval of numbers, in hundredths
unfoldable pub hundredths_interval_words : ℕ → ℕ → List ℕ
hundredths_interval_words low high = hundredths_words low ++ markup (codes " to ") ++ hundredths_words high

-- a share is at most the whole
abbrev pub thousandths : ℕ → ℕ
thousandths share = min share 1000

-- the share of a setting's runs with a false death, in thousandths and rounded down
unfoldable pub share_of : SettingSummary → ℕ
share_of setting = thousandths (setting.runs_with * 1000 / max setting.runs 1)

-- the number of the setting at a place: the first is 1, and none is past 64 bits
unfoldable pub number_words : ℕ → List ℕ
number_words place = grouped (min (place + 1) (2 ^ 64 - 1))

-- the choices of a setting
unfoldable pub swept_keys_words : List Choice → List ℕ
swept_keys_words chosen = if length chosen == 0 then codes "the scenario as it is" else escaped (choices_text chosen)

-- those of the setting at a place among all
unfoldable pub swept_keys_at : List KeyValues → ℕ → List ℕ
swept_keys_at swept_keys place = option_map_or swept_keys_words (slice_get (settings_of swept_keys) place) []

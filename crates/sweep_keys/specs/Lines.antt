-- The settings that differ in one axis alone, which is a key or keys that go together, as lines over its values.
use Rattle.std.specs.Prelude.{ℕ, ◌+◌, ◌-◌, ◌*◌, ◌/◌, ◌%◌, ◌^◌, min, max, List, Option, codes, fold}
use Rattle.sweep_plan.specs.Sweep.{KeyValues, choice_count}
use Rattle.figures.specs.declared.summary.SettingSummary.{SettingSummary}
use Rattle.sweep_keys.specs.declared.lines.KeyLines.{KeyLines}
use Rattle.sweep_keys.specs.declared.statistic.Statistic.{Statistic}
use Rattle.sweep_keys.specs.declared.statistic.Statistic.TheVariants.{Suspected, Confirmed, Last}

-- as far as 64 bits hold it
abbrev pub held : ℕ → ℕ
held n = min n (2 ^ 64 - 1)

-- how many settings stand for each choice that the keys so far leave: all settings, shared out among the choices of each key
abbrev pub shared_out : ℕ → List KeyValues → ℕ
shared_out settings swept_keys = fold (λ left (s : KeyValues). left / max (choice_count s) 1) settings swept_keys

-- the lines over an axis of so many keys with so many values, where each of these values stands for so many settings of the keys after it, among all settings: eight at most
unfoldable pub key_lines : ℕ → ℕ → ℕ → ℕ → KeyLines
key_lines keys values after settings = record { keys = keys; values = values; after = after; lines = min (settings / max values 1) 8 }

-- the place among all settings of a line's setting with the value at a place: values come again each time that the keys before them change
unfoldable pub setting_place : KeyLines → ℕ → ℕ → ℕ
setting_place k line value = held (line / max k.after 1 * (max k.after 1 * k.values) + value * max k.after 1 + line % max k.after 1)

-- how wide a plot is: each value has the room of 32 units
unfoldable pub width : KeyLines → ℕ
width k = max (held (k.values * 32)) 1

-- the middle of the room of the value at a place
unfoldable pub middle : ℕ → ℕ
middle value = held (value * 32 + 16)

-- where a line has its dot in the room of a value: lines stand beside each other, two units apart
unfoldable pub across : KeyLines → ℕ → ℕ → ℕ
across k line value = held (middle value - (k.lines - 1) + line * 2)

-- what is drawn of a setting, in words
unfoldable pub statistic_words : Statistic → List ℕ
statistic_words Suspected = codes "First suspected: median, 5th to 95th"
statistic_words Confirmed = codes "First confirmed: median, 5th to 95th"
statistic_words Last = codes "Last confirmed: median, 5th to 95th"

-- its 5th percentile
unfoldable pub early : Statistic → SettingSummary → Option ℕ
early Suspected setting = setting.suspect_p5
early Confirmed setting = setting.confirm_p5
early Last setting = setting.last_p5

-- its median
unfoldable pub median : Statistic → SettingSummary → Option ℕ
median Suspected setting = setting.suspect_p50
median Confirmed setting = setting.confirm_p50
median Last setting = setting.last_p50

-- its 95th percentile
unfoldable pub late : Statistic → SettingSummary → Option ℕ
late Suspected setting = setting.suspect_p95
late Confirmed setting = setting.confirm_p95
late Last setting = setting.last_p95

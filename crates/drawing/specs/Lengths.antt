-- Lengths of time, where it is known how long a tick lasts.
use Rattle.std.specs.Prelude.{ℕ, zero, suc, ◌*◌, ◌/◌, ◌%◌, nat_lt, nat_eq, if◌then◌else◌, Option, Some, None, List, [], ◌++◌, codes, decimal}
use Rattle.ticks.specs.declared.tick.Tick.{Tick}
use Rattle.drawing.specs.Numbers.{grouped}

-- the first decimal place of what is left of a unit, where something is
abbrev pub digit : ℕ → ℕ → List ℕ
digit part unit = if nat_eq part 0 then [] else decimal (part * 10 / unit)

-- its decimal places: so many at most, and none behind the last that isn't 0
abbrev pub places_within : ℕ → ℕ → ℕ → List ℕ
places_within zero part unit = []
places_within (suc places) part unit = digit part unit ++ places_within places (part * 10 % unit) unit

abbrev pub part_words : ℕ → ℕ → List ℕ
part_words part unit = if nat_eq part 0 then [] else codes "." ++ places_within 6 part unit

-- a length in a unit of a million of its parts at most, with the unit's name
unfoldable pub in_unit : ℕ → ℕ → List ℕ → List ℕ
in_unit length unit name = decimal (length / unit) ++ part_words (length % unit) unit ++ codes " " ++ name

-- so many of a unit, behind others; nothing where there is none
abbrev pub and_more : ℕ → List ℕ → List ℕ
and_more count name = if nat_eq count 0 then [] else codes " " ++ decimal count ++ name

-- the seconds beyond whole minutes, behind others; a length is a number of microseconds
abbrev pub and_seconds : ℕ → List ℕ
and_seconds length = if nat_eq length 0 then [] else codes " " ++ in_unit length 1000000 (codes "s")

-- a length below a minute: in seconds, or in the greatest part of a second of which it is one
abbrev pub short_words : ℕ → List ℕ
short_words length =
    if nat_eq length 0 then codes "0 s"
    else if nat_lt length 1000 then in_unit length 1 (codes "&micro;s")
    else if nat_lt length 1000000 then in_unit length 1000 (codes "ms")
    else in_unit length 1000000 (codes "s")

-- a minute, an hour and a day
abbrev pub minute : ℕ
minute = 60 * 1000000

abbrev pub hour : ℕ
hour = 60 * minute

abbrev pub day : ℕ
day = 24 * hour

-- minutes and seconds beyond whole hours, behind others
unfoldable pub and_minutes : ℕ → List ℕ
and_minutes length = and_more (length / minute % 60) (codes " min") ++ and_seconds (length % minute)

-- a length of a minute or more: days, hours, minutes and seconds, without those of which there are none
unfoldable pub days_words : ℕ → List ℕ
days_words length = decimal (length / day) ++ codes " d" ++ and_more (length / hour % 24) (codes " h") ++ and_minutes length

unfoldable pub hours_words : ℕ → List ℕ
hours_words length = decimal (length / hour) ++ codes " h" ++ and_minutes length

unfoldable pub minutes_words : ℕ → List ℕ
minutes_words length = decimal (length / minute) ++ codes " min" ++ and_seconds (length % minute)

-- a length in words
abbrev pub length_words : ℕ → List ℕ
length_words length =
    if nat_lt length minute then short_words length
    else if nat_lt length hour then minutes_words length
    else if nat_lt length day then hours_words length
    else days_words length

-- how long so many ticks last
abbrev pub length_of : Tick → ℕ → ℕ
length_of tick ticks = ticks * tick.microseconds

-- the same in words
abbrev pub ticks_words : Tick → ℕ → List ℕ
ticks_words tick ticks = length_words (length_of tick ticks)

-- the same in parentheses, behind their number
unfoldable pub in_parentheses : Tick → ℕ → List ℕ
in_parentheses tick ticks = codes " (" ++ ticks_words tick ticks ++ codes ")"

-- nothing where it isn't known how long a tick lasts
abbrev pub lasting : Option Tick → ℕ → List ℕ
lasting None ticks = []
lasting (Some tick) ticks = in_parentheses tick ticks

-- from which to which length two numbers of ticks last
unfoldable pub between : Tick → ℕ → ℕ → List ℕ
between tick least greatest = codes " (" ++ ticks_words tick least ++ codes " to " ++ ticks_words tick greatest ++ codes ")"

abbrev pub lasting_between : Option Tick → ℕ → ℕ → List ℕ
lasting_between None least greatest = []
lasting_between (Some tick) least greatest = between tick least greatest

-- a number of ticks, and how long they last
unfoldable pub time_text : Option Tick → ℕ → List ℕ
time_text tick ticks = grouped ticks ++ lasting tick ticks

-- a time alone: how long so many ticks last, where that is known, or else their number
abbrev pub time_alone : Option Tick → ℕ → List ℕ
time_alone None ticks = grouped ticks
time_alone (Some tick) ticks = ticks_words tick ticks

-- a moment alone: the same, its number without commas
abbrev pub moment_alone : Option Tick → ℕ → List ℕ
moment_alone None ticks = decimal ticks
moment_alone (Some tick) ticks = ticks_words tick ticks

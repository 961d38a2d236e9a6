-- Lengths of time as a text writes them, `1.5s` or `2h30m`, in ticks of a given length; and shares, as `2%`.
use Rattle.std.specs.Prelude.{◌≡◌, ◌≢◌, ℕ, ◌+◌, ◌*◌, ◌^◌, ◌<◌, ◌≤◌, ◌⊎◌, ◌&&◌, Bool, true, nat_lt, List, [], ◌∷◌, ◌++◌, length, codes, Result, Ok, Err}
use Rattle.std.specs.Char.{is_ascii_digit}
use Rattle.lengths.specs.declared.unit.Unit.{Unit}
use Rattle.lengths.specs.declared.unit.Unit.TheVariants.{Microsecond, Millisecond, Second, Minute, Hour, Day}
use Rattle.lengths.specs.declared.fault.LengthFault.{LengthFault}
use Rattle.lengths.specs.declared.fault.LengthFault.TheVariants.{NoLength, PartTick, OutOfRange}
use Rattle.lengths.specs.Numerals.{IsNumeral}

-- how a unit is named
abbrev pub unit_word : Unit → List ℕ
unit_word Microsecond = codes "us"
unit_word Millisecond = codes "ms"
unit_word Second = codes "s"
unit_word Minute = codes "m"
unit_word Hour = codes "h"
unit_word Day = codes "d"

-- how many microseconds it has
abbrev pub unit_length : Unit → ℕ
unit_length Microsecond = 1
unit_length Millisecond = 1000
unit_length Second = 1000000
unit_length Minute = 60 * 1000000
unit_length Hour = 60 * 60 * 1000000
unit_length Day = 24 * 60 * 60 * 1000000

-- all units, from large to small
abbrev pub units : List Unit
units = Day ∷ Hour ∷ Minute ∷ Second ∷ Millisecond ∷ Microsecond ∷ []

-- The text begins with a number of a unit, the unit's name behind it; then the rest follows. The number has at
-- most twelve digits and six behind the point. The length is in millionths of a microsecond.
pub record IsPart (unit : Unit) (text rest : List ℕ) (total : ℕ) : Type 0 where
  pub word : List ℕ
  pub number : ℕ
  pub written : word ++ (unit_word unit ++ rest) ≡ text
  pub is : IsNumeral 12 6 word number
  pub counts : total ≡ number * unit_length unit

-- whether a part may end before this text: nothing follows, or a digit
abbrev pub may_end : List ℕ → Bool
may_end [] = true
may_end (byte ∷ bytes) = is_ascii_digit byte

-- whether all these units are smaller than another one
abbrev pub are_smaller : Unit → List Unit → Bool
are_smaller unit [] = true
are_smaller unit (other ∷ others) = nat_lt (unit_length other) (unit_length unit) && are_smaller unit others

-- the text is parts of some of these units in their order, each unit at most once, of this length together
abbrev pub AreParts : List Unit → List ℕ → ℕ → Type 0
AreParts [] text total = (text ≡ []) × (total ≡ 0)
AreParts (unit ∷ smaller) text total =
    AreParts smaller text total
    ⊎ ((rest : List ℕ) × (first others : ℕ) × IsPart unit text rest first × AreParts smaller rest others × (total ≡ first + others))

-- the word is a length: one or more parts from large to small, each unit once; in millionths of a microsecond
pub record IsLength (word : List ℕ) (total : ℕ) : Type 0 where
  pub some : 0 < length word
  pub parts : AreParts units word total

-- the word is a length of so many whole ticks; a tick is in microseconds
abbrev pub AreTicks : ℕ → List ℕ → ℕ → Type 0
AreTicks tick word ticks = IsLength word (ticks * (tick * 1000000))

-- the word is a length, and no whole number of ticks
pub record IsPartTick (tick : ℕ) (word : List ℕ) : Type 0 where
  pub total : ℕ
  pub is : IsLength word total
  pub not_whole : (ticks : ℕ) → total ≢ ticks * (tick * 1000000)

-- what a word says, in ticks: their number, which is below 2^63; or why it says none
abbrev pub SaysTicks : ℕ → List ℕ → Result ℕ LengthFault → Type 0
SaysTicks tick word (Ok ticks) = AreTicks tick word ticks × (ticks < 2 ^ 63)
SaysTicks tick word (Err NoLength) = (total : ℕ) → ¬ (IsLength word total)
SaysTicks tick word (Err PartTick) = IsPartTick tick word
SaysTicks tick word (Err OutOfRange) = (ticks : ℕ) × AreTicks tick word ticks × (2 ^ 63 ≤ ticks)

-- how many microseconds a tick has: from 1 to a million
abbrev pub IsTick : ℕ → Type 0
IsTick microseconds = (1 ≤ microseconds) × (microseconds ≤ 1000000)

-- what a word says a tick is, in microseconds; or why it says none
abbrev pub SaysTick : List ℕ → Result ℕ LengthFault → Type 0
SaysTick word (Ok tick) = AreTicks 1 word tick × IsTick tick
SaysTick word (Err NoLength) = (total : ℕ) → ¬ (IsLength word total)
SaysTick word (Err PartTick) = IsPartTick 1 word
SaysTick word (Err OutOfRange) = (tick : ℕ) × AreTicks 1 word tick × ¬ (IsTick tick)

-- the word is a share: a number of hundredths, of at most three digits and four behind the point; per million
abbrev pub IsShare : List ℕ → ℕ → Type 0
IsShare word per_million = (number : List ℕ) × (number ++ codes "%" ≡ word) × IsNumeral 3 4 number per_million

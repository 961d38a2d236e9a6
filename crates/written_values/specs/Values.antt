-- What the values of a text of version 4 say: ticks, as whole numbers or lengths; shares; and how long a tick is. Rule 4 is
-- that of another kind, rule 5 that of a number outside its range.
use Rattle.std.specs.Prelude.{◌≡◌, ◌≤◌, ℕ, pos, Option, Some, None, Result, Ok, Err}
use Rattle.toml.specs.Data.{Data, integer, string}
use Rattle.lengths.specs.Lengths.{AreTicks, IsLength, IsShare}
use Rattle.written_values.specs.declared.fault.ValueFault.{ValueFault}
use Rattle.written_values.specs.declared.fault.ValueFault.TheVariants.{WrongKind, OutOfRange}

abbrev pub rule_of : ValueFault → ℕ
rule_of WrongKind = 4
rule_of OutOfRange = 5

-- a number is refused by rule 4 where its value is of another kind, by rule 5 where it says none of the range
abbrev pub SaysNumber : (counts : Type 0) (is : ℕ → Type 0) (least most : ℕ) → Result ℕ ValueFault → Type 0
SaysNumber counts is least most (Ok number) = is number × ((least ≤ number) × (number ≤ most))
SaysNumber counts is least most (Err WrongKind) = ¬ counts
SaysNumber counts is least most (Err OutOfRange) = counts × ((number : ℕ) → is number → least ≤ number → ¬ (number ≤ most))

-- ---- ticks, of so many microseconds each

-- a whole number of ticks, or a length of so many
abbrev pub AreTicksIn : ℕ → Data → ℕ → Type 0
AreTicksIn tick (integer (pos number)) ticks = number ≡ ticks
AreTicksIn tick (string word) ticks = AreTicks tick word ticks
AreTicksIn tick _ ticks = ⊥

-- a value that may count ticks
abbrev pub CountsTicks : Data → Type 0
CountsTicks (integer number) = Unit {0}
CountsTicks (string word) = (total : ℕ) × IsLength word total
CountsTicks _ = ⊥

abbrev pub SaysTicksIn : (tick least most : ℕ) → Data → Result ℕ ValueFault → Type 0
SaysTicksIn tick least most d result = SaysNumber (CountsTicks d) (AreTicksIn tick d) least most result

-- ---- shares, in parts per million

-- a whole number, or a share of so many
abbrev pub IsShareIn : Data → ℕ → Type 0
IsShareIn (integer (pos number)) parts = number ≡ parts
IsShareIn (string word) parts = IsShare word parts
IsShareIn _ parts = ⊥

-- a value that may be a share
abbrev pub MayBeShare : Data → Type 0
MayBeShare (integer number) = Unit {0}
MayBeShare (string word) = (parts : ℕ) × IsShare word parts
MayBeShare _ = ⊥

abbrev pub SaysShareIn : Data → Result ℕ ValueFault → Type 0
SaysShareIn d result = SaysNumber (MayBeShare d) (IsShareIn d) 0 1000000 result

-- ---- how long a tick is, in microseconds

abbrev pub IsTickIn : Data → ℕ → Type 0
IsTickIn (string word) tick = AreTicks 1 word tick
IsTickIn _ tick = ⊥

-- a value that may say how long a tick is
abbrev pub MayBeTick : Data → Type 0
MayBeTick (string word) = (total : ℕ) × IsLength word total
MayBeTick _ = ⊥

abbrev pub SaysTickOf : Data → Result ℕ ValueFault → Type 0
SaysTickOf d result = SaysNumber (MayBeTick d) (IsTickIn d) 1 1000000 result

-- the key's value, if it is there; else a millisecond
abbrev pub SaysTickIn : Option Data → Result ℕ ValueFault → Type 0
SaysTickIn (Some d) result = SaysTickOf d result
SaysTickIn None result = result ≡ Ok 1000

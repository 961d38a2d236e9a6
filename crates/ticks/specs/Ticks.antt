-- How long a tick lasts, and the words that say so.
use Rattle.std.specs.Prelude.{◌≡◌, ℕ, ◌*◌, ◌≤◌, List, ◌++◌, codes, decimal}
use Rattle.ticks.specs.declared.tick.Tick.{Tick}
use Rattle.ticks.specs.declared.unit.Unit.{Unit}
use Rattle.ticks.specs.declared.unit.Unit.TheVariants.{Microsecond, Millisecond, Second}

-- how a unit is named
abbrev pub unit_word : Unit → List ℕ
unit_word Microsecond = codes "us"
unit_word Millisecond = codes "ms"
unit_word Second = codes "s"

-- how many microseconds it has
abbrev pub unit_length : Unit → ℕ
unit_length Microsecond = 1
unit_length Millisecond = 1000
unit_length Second = 1000000

-- the word is a whole number of a unit, in decimal and without leading zeros, with the unit behind it: so long the tick lasts, from a microsecond
-- to a second
pub record IsTickIn (unit : Unit) (word : List ℕ) (tick : Tick) : Type 0 where
  pub number : ℕ
  pub written : decimal number ++ unit_word unit ≡ word
  pub lasts : tick.microseconds ≡ number * unit_length unit
  pub low : 1 ≤ tick.microseconds
  pub high : tick.microseconds ≤ 1000000

-- the same, in whichever unit
abbrev pub IsTickWord : List ℕ → Tick → Type 0
IsTickWord word tick = (unit : Unit) × IsTickIn unit word tick

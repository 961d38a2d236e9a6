-- What the keys of an item that count ticks say: a number of ticks in the key's range, or rule 4 or 5.
use Rattle.std.specs.Prelude.{◌≡◌, ◌≤◌, ℕ, ◌^◌, Bool, true, false, ◌||◌, codes, Option, Some, None, Result, Ok, Err}
use Rattle.toml.specs.Data.{Data, get}
use Rattle.written_values.specs.Values.{SaysTicksIn}
use Rattle.written_values.specs.declared.fault.ValueFault.{ValueFault}
use Rattle.written_values.specs.declared.fault.ValueFault.TheVariants.{WrongKind, OutOfRange}
use Rattle.script_reader.specs.declared.numbers.EntryNumbers.{EntryNumbers}

-- what a key says, if it is there
abbrev pub SaysReading : (tick least most : ℕ) → Option Data → Option (Result ℕ ValueFault) → Type 0
SaysReading tick least most None reading = reading ≡ None
SaysReading tick least most (Some d) None = ⊥
SaysReading tick least most (Some d) (Some reading) = SaysTicksIn tick least most d reading

-- a tick has so many microseconds
pub record AreNumbersOf (tick : ℕ) (d : Data) (numbers : EntryNumbers) : Type 0 where
  pub at : SaysReading tick 0 (2 ^ 40) (get (codes "at") d) numbers.at
  pub each : SaysReading tick 0 (2 ^ 40) (get (codes "each") d) numbers.each
  pub back : SaysReading tick 1 (2 ^ 40) (get (codes "back") d) numbers.back
  pub from : SaysReading tick 0 (2 ^ 40) (get (codes "from") d) numbers.from
  pub until : SaysReading tick 0 (2 ^ 40) (get (codes "until") d) numbers.until
  pub every : SaysReading tick 1 (2 ^ 31) (get (codes "every") d) numbers.every
  pub lasts : SaysReading tick 1 (2 ^ 31) (get (codes "lasts") d) numbers.lasts
  pub lasts_most : SaysReading tick 1 (2 ^ 31) (get (codes "lasts_most") d) numbers.lasts_most
  pub extra : SaysReading tick 1 (2 ^ 24) (get (codes "extra") d) numbers.extra

-- the number of a key, else this one
abbrev pub number_or : ℕ → Option (Result ℕ ValueFault) → ℕ
number_or default (Some (Ok number)) = number
number_or default _ = default

-- a number of a range, if there is one
abbrev pub IsIn : (least most : ℕ) → Option (Result ℕ ValueFault) → Type 0
IsIn least most (Some (Ok number)) = (least ≤ number) × (number ≤ most)
IsIn least most _ = Unit {0}

-- each number is in its key's range
pub record AreWithin (numbers : EntryNumbers) : Type 0 where
  pub at : IsIn 0 (2 ^ 40) numbers.at
  pub each : IsIn 0 (2 ^ 40) numbers.each
  pub back : IsIn 1 (2 ^ 40) numbers.back
  pub from : IsIn 0 (2 ^ 40) numbers.from
  pub until : IsIn 0 (2 ^ 40) numbers.until
  pub every : IsIn 1 (2 ^ 31) numbers.every
  pub lasts : IsIn 1 (2 ^ 31) numbers.lasts
  pub lasts_most : IsIn 1 (2 ^ 31) numbers.lasts_most
  pub extra : IsIn 1 (2 ^ 24) numbers.extra

-- what a key says breaks the rule
abbrev pub is_fault : ValueFault → Option (Result ℕ ValueFault) → Bool
is_fault WrongKind (Some (Err WrongKind)) = true
is_fault OutOfRange (Some (Err OutOfRange)) = true
is_fault _ _ = false

-- one of the keys breaks the rule
abbrev pub any_fault : ValueFault → EntryNumbers → Bool
any_fault fault numbers =
    is_fault fault numbers.at
    || (is_fault fault numbers.each
    || (is_fault fault numbers.back
    || (is_fault fault numbers.from
    || (is_fault fault numbers.until
    || (is_fault fault numbers.every
    || (is_fault fault numbers.lasts || (is_fault fault numbers.lasts_most || is_fault fault numbers.extra)))))))

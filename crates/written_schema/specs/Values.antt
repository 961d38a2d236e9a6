-- Which rule the value of a key breaks: 4 where it is of another kind, 5 where it is outside its range.
use Rattle.std.specs.Prelude.{◌≡◌, ℕ, ◌^◌, Bool, true, if◌then◌else◌, is_none, nat_lt, codes, Result, Ok, Err}
use Rattle.toml.specs.Data.{Data, as_array, as_bool, as_integer, as_str, get}
use Rattle.schema.specs.Shape.{is_outside}
use Rattle.schema.specs.declared.schema.Kind.TheVariants as kind
use Rattle.written_values.specs.Values.{rule_of, SaysShareIn, SaysTickIn, SaysTickOf, SaysTicksIn}
use Rattle.written_values.specs.declared.fault.ValueFault.{ValueFault}
use Rattle.written_schema.specs.Lowest.{no_rule, rule_if}
use Rattle.written_schema.specs.declared.rows.WrittenKind.{WrittenKind}
use Rattle.written_schema.specs.declared.rows.WrittenKind.TheVariants.{Ticks, Share, Tick, Whole, Switch, Text, Table, List, Script}

-- the rule for which a value is refused, if it is
abbrev pub said_rule : Result ℕ ValueFault → ℕ
said_rule (Ok number) = no_rule
said_rule (Err fault) = rule_of fault

-- a value that says a number, in the way of its kind
abbrev pub IsSaidRule : (Result ℕ ValueFault → Type 0) → (rule : ℕ) → Type 0
IsSaidRule Says rule = (said : Result ℕ ValueFault) × Says said × (rule ≡ said_rule said)

-- another value than a whole number of this range
abbrev pub whole_rule : (least most : ℕ) → Data → ℕ
whole_rule least most d = if is_none (as_integer d) then 4 else rule_if (is_outside (kind.Whole least most) d) 5

-- a tick has so many microseconds; a table is judged as a table, and the six lists about members by `script_reader`
abbrev pub IsValueRule : (tick : ℕ) → WrittenKind → Data → (rule : ℕ) → Type 0
IsValueRule tick (Ticks least most) d rule = IsSaidRule (SaysTicksIn tick least most d) rule
IsValueRule tick Share d rule = IsSaidRule (SaysShareIn d) rule
IsValueRule tick Tick d rule = IsSaidRule (SaysTickOf d) rule
IsValueRule tick (Whole least most) d rule = rule ≡ whole_rule least most d
IsValueRule tick Switch d rule = rule ≡ rule_if (is_none (as_bool d)) 4
IsValueRule tick Text d rule = rule ≡ rule_if (is_none (as_str d)) 4
IsValueRule tick (Table section) d rule = rule ≡ no_rule
IsValueRule tick (List section) d rule = rule ≡ rule_if (is_none (as_array d)) 4
IsValueRule tick Script d rule = rule ≡ no_rule

-- ---- how long a tick is

abbrev pub tick_or_millisecond : Result ℕ ValueFault → ℕ
tick_or_millisecond (Ok tick) = tick
tick_or_millisecond (Err fault) = 1000

-- a document's tick in microseconds: what `tick` says, else a millisecond
abbrev pub IsTickOf : Data → ℕ → Type 0
IsTickOf d tick = (said : Result ℕ ValueFault) × SaysTickIn (get (codes "tick") d) said × (tick ≡ tick_or_millisecond said)

-- ---- numbers

-- the range of a number of ticks is one of numbers below 2^63
abbrev pub is_low : WrittenKind → Bool
is_low (Ticks least most) = nat_lt most (2 ^ 63)
is_low _ = true

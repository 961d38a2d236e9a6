-- The values that words stand for.
use Rattle.std.specs.Prelude.{◌≡◌, ℕ, ◌<◌, ◌^◌, List, true, false, codes}
use Rattle.std.specs.Fmt.{decimal}
use Rattle.sweep_plan.specs.declared.values.SweptValue.{SweptValue}
use Rattle.sweep_plan.specs.declared.values.SweptValue.TheVariants.{Whole, Switch}

-- how a value is written: a number in decimal, without sign or leading zero, a switch as `true` or `false`
abbrev pub value_text : SweptValue → List ℕ
value_text (Whole n) = decimal n
value_text (Switch true) = codes "true"
value_text (Switch false) = codes "false"

-- a number is at most 2^63 - 1, as TOML's are
abbrev pub FitsToml : SweptValue → Type 0
FitsToml (Whole n) = n < 2 ^ 63
FitsToml (Switch b) = Unit {0}

-- the word is the value's text, and the value fits
pub record IsValue (word : List ℕ) (value : SweptValue) : Type 0 where
  pub written : value_text value ≡ word
  pub fits : FitsToml value

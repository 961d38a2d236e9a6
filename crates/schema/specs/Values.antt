-- The values of the keys of a TOML document, with the format's defaults.
use Rattle.std.specs.Prelude.{ℕ, Bool, List, [], true, false, Option, Some, pos, unwrap_or, option_and_then}
use Rattle.std.specs.Option.{option_map_or}
use Rattle.toml.specs.Data.{Data, integer, boolean, as_str}
use Rattle.schema.specs.Schema.{spelling_of, key_rules_of}
use Rattle.schema.specs.Tree.{value_at, rule_named}
use Rattle.schema.specs.declared.schema.Version.TheVariants.{Four}
use Rattle.schema.specs.declared.schema.FormatKey.{FormatKey}
use Rattle.schema.specs.declared.schema.Section.{Section}
use Rattle.schema.specs.declared.schema.Absence.{Absence}
use Rattle.schema.specs.declared.schema.Absence.TheVariants.{Default}

-- the default that a row gives
abbrev pub default_in : Absence → ℕ
default_in (Default n) = n
default_in _ = 0

-- the default of a key of a section, which is that of version 4 in each version that has the key
abbrev pub default_of : Section → FormatKey → ℕ
default_of s key = option_map_or (λ row. default_in row.absence) (rule_named (key_rules_of Four s) (spelling_of key)) 0

-- a whole number that is there, else the default
abbrev pub whole_or : ℕ → Option Data → ℕ
whole_or default (Some (integer (pos n))) = n
whole_or default _ = default

-- the whole number of a key, else its default; where the table isn't there, the default
unfoldable pub number_at : Section → FormatKey → Option Data → ℕ
number_at s key d = whole_or (default_of s key) (option_and_then (value_at key) d)

-- a switch that isn't there is on
abbrev pub is_on : Option Data → Bool
is_on (Some (boolean b)) = b
is_on _ = true

-- the switch of a key; where the table isn't there, it is on
unfoldable pub switch_at : FormatKey → Option Data → Bool
switch_at key d = is_on (option_and_then (value_at key) d)

-- a switch that isn't there is off
abbrev pub is_set : Option Data → Bool
is_set (Some (boolean b)) = b
is_set _ = false

-- the switch of a key; where the table isn't there, it is off
unfoldable pub switch_set : FormatKey → Option Data → Bool
switch_set key d = is_set (option_and_then (value_at key) d)

-- the text of a key, if it is there
unfoldable pub text_if : FormatKey → Data → Option (List ℕ)
text_if key d = option_and_then as_str (value_at key d)

-- the text of a key
abbrev pub text_at : FormatKey → Data → List ℕ
text_at key d = unwrap_or (text_if key d) []

-- Values of an item: texts, whole numbers, and numbers of ticks.
use Rattle.std.specs.Prelude.{◌≡◌, ℕ, if◌then◌else◌, List, [], codes, pos, negsuc, nat_le, unwrap_or, Option, Some, None, option_and_then, Result, Ok, Err, ◌⊎◌}
use Rattle.std.specs.Option.{option_map_or}
use Rattle.toml.specs.Data.{Data, as_str, get, integer}
use Rattle.schema.specs.Tree.{items_of}
use Rattle.written_values.specs.Values.{SaysTicksIn}
use Rattle.written_values.specs.declared.fault.ValueFault.{ValueFault}

-- the text of a key; empty where no string is there
abbrev pub text_at : List ℕ → Data → List ℕ
text_at key d = unwrap_or (option_and_then as_str (get key d)) []

-- the items of the list at a key
abbrev pub items_at : List ℕ → Data → List Data
items_at key d = option_map_or items_of (get key d) []

-- a number of members up to 16,384; 0 where there is none
abbrev pub count_in : Data → ℕ
count_in (integer (pos count)) = if nat_le count 16384 then count else 0
count_in (integer (negsuc count)) = 0
count_in _ = 0

abbrev pub count_at : Data → ℕ
count_at d = option_map_or count_in (get (codes "count") d) 0

-- a number of ticks of the range; 0 where the value says none
abbrev pub CountsIn : (tick least most : ℕ) → Data → ℕ → Type 0
CountsIn tick least most d number =
    SaysTicksIn tick least most d (Ok number) ⊎ ((number ≡ 0) × ((fault : ValueFault) × SaysTicksIn tick least most d (Err fault)))

abbrev pub CountsAt : (tick least most : ℕ) → Option Data → ℕ → Type 0
CountsAt tick least most None number = number ≡ 0
CountsAt tick least most (Some d) number = CountsIn tick least most d number

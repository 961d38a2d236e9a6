-- Values of an item that are texts, lists of texts, or whole numbers.
use Rattle.std.specs.Prelude.{ℕ, Bool, false, ◌&&◌, ◌||◌, if◌then◌else◌, List, [], codes, pos, negsuc, nat_le, is_none, Option, option_map, option_and_then, Result, Ok, Err}
use Rattle.std.specs.List.{list_any}
use Rattle.std.specs.Option.{option_map_or}
use Rattle.toml.specs.Data.{Data, as_array, as_str, get, integer}
use Rattle.schema.specs.Tree.{items_of}
use Rattle.written_values.specs.declared.fault.ValueFault.{ValueFault}
use Rattle.written_values.specs.declared.fault.ValueFault.TheVariants.{WrongKind, OutOfRange}

-- the text of a key, if a string is there
abbrev pub text_at : List ℕ → Data → Option (List ℕ)
text_at key d = option_and_then as_str (get key d)

-- no string
abbrev pub is_other_value : Data → Bool
is_other_value d = is_none (as_str d)

-- something else than a string stands at a key
abbrev pub is_other_text : List ℕ → Data → Bool
is_other_text key d = option_map_or is_other_value (get key d) false

-- the items of `members`
abbrev pub members_of : Data → List Data
members_of d = option_map_or items_of (get (codes "members") d) []

-- no list of strings
abbrev pub is_other_list : Data → Bool
is_other_list d = is_none (as_array d) || list_any is_other_value (items_of d)

abbrev pub has_other_names : Data → Bool
has_other_names d = option_map_or is_other_list (get (codes "members") d) false

-- how many members a value says: 1 to 16,384
abbrev pub count_in : Data → Result ℕ ValueFault
count_in (integer (pos count)) = if nat_le 1 count && nat_le count 16384 then Ok count else Err OutOfRange
count_in (integer (negsuc count)) = Err OutOfRange
count_in _ = Err WrongKind

abbrev pub count_at : Data → Option (Result ℕ ValueFault)
count_at d = option_map count_in (get (codes "count") d)

-- Items of lists: how they are named, and how a key keeps such a name.
use Rattle.std.specs.Prelude.{ℕ, ◌-◌, List, [], ◌∷◌, ◌++◌, Bool, false, ◌&&◌, ◌||◌, ◌==◌, nat_lt, length, filter, replicate}
use Rattle.std.specs.List.{list_all}
use Rattle.std.specs.Char.{is_ascii_alphabetic, is_ascii_digit}
use Rattle.std.specs.Option.{option_map_or}
use Rattle.toml.specs.Data.{Data}
use Rattle.schema.specs.Values.{text_if}
use Rattle.schema.specs.declared.schema.FormatKey.{FormatKey}
use Rattle.schema.specs.declared.schema.FormatKey.TheVariants as key
use Rattle.sweep_plan.specs.declared.items.ItemName.{ItemName}

-- a text that says which item it is, behind a dot; nothing where the item has none at the key
abbrev pub name_part : FormatKey → Data → List ℕ
name_part k d = option_map_or (λ text. 46 ∷ text) (text_if k d) []

-- from which group to which it goes, where it says both; a time has a beginning alone, which may be a text, too
abbrev pub ends_of_item : Data → List ℕ
ends_of_item d = option_map_or (λ to. name_part key.From d ++ 46 ∷ to) (text_if key.To d) []

-- of an item that has no name of its own: the member that is meant, or the groups from which and to which a path or a cut goes; each behind a dot
abbrev pub parts_of_item : Data → List ℕ
parts_of_item d = name_part key.Member d ++ ends_of_item d

-- the name of an item: its own, which groups have and maybe entries on members, else what it is about
abbrev pub name_of_item : Data → List ℕ
name_of_item d = option_map_or (λ text. 46 ∷ text) (text_if key.Name d) (parts_of_item d)

-- names are made of letters, digits, dashes, underscores and dots
abbrev pub is_letter : ℕ → Bool
is_letter b = ((is_ascii_alphabetic b || is_ascii_digit b) || ((b == 45) || (b == 95))) || (b == 46)

-- a name in a word begins with a dot, and has at most 76 bytes: so many have the names of two groups and a number of nine digits, each behind a dot
abbrev pub is_item_name : List ℕ → Bool
is_item_name [] = false
is_item_name (first ∷ rest) = ((first == 46) && nat_lt (length rest) 76) && list_all is_letter rest

-- a name is kept in 76 bytes, filled up with zeros
abbrev pub kept_name : List ℕ → ItemName
kept_name name = record { bytes = name ++ replicate (76 - length name) 0 }

-- the name that is kept: what stands there of letters
abbrev pub item_text : ItemName → List ℕ
item_text item = filter is_letter item.bytes

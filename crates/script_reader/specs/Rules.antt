-- The lowest rule that items of the six lists break as they are written: 2 to 7, or 9 of their keys.
use Rattle.std.specs.Prelude.{ℕ, min, Bool, false, not, ◌&&◌, ◌||◌, if◌then◌else◌, List, [], ◌∷◌, length, codes, fold, nat_eq, nat_lt, bytes_eq, is_none, is_some, Option}
use Rattle.std.specs.List.{list_any}
use Rattle.std.specs.Option.{option_map_or}
use Rattle.toml.specs.Data.{Data, as_str, as_table, get}
use Rattle.toml.specs.View.{view}
use Rattle.schema.specs.Tree.{keys_of}
use Rattle.scenario.specs.Setup.{Group}
use Rattle.scenario_reader.specs.Reading.{group_named, member_named}
use Rattle.written_entries.specs.Keys.{excludes, keys_in, lacks_key}
use Rattle.written_entries.specs.declared.keys.ScriptList.{ScriptList}
use Rattle.written_names.specs.Names.{is_written_name}
use Rattle.written_values.specs.declared.fault.ValueFault.TheVariants.{WrongKind, OutOfRange}
use Rattle.script_reader.specs.declared.item.WrittenItem.{WrittenItem}
use Rattle.script_reader.specs.declared.numbers.EntryNumbers.{EntryNumbers}
use Rattle.script_reader.specs.Keys.{is_key}
use Rattle.script_reader.specs.Numbers.{any_fault, is_fault, AreNumbersOf, AreWithin}
use Rattle.script_reader.specs.Values.{count_at, has_other_names, is_other_text, members_of, text_at}

abbrev pub item_of : WrittenItem → Data
item_of it = view it.item.now

-- its numbers are those that the item says; a tick has so many microseconds
pub record IsRead (tick : ℕ) (it : WrittenItem) : Type 0 where
  pub numbers : AreNumbersOf tick (item_of it) it.numbers
  pub within : AreWithin it.numbers

-- over the number of each rule
abbrev pub no_rule : ℕ
no_rule = 255

-- ---- rules 2 to 5

abbrev pub lacks_some : ScriptList → Data → Bool
lacks_some list d = is_some (as_table d) && lacks_key list (keys_in d)

abbrev pub has_unknown_key : ScriptList → Data → Bool
has_unknown_key list d = list_any (λ key. not (is_key list key)) (keys_of d)

abbrev pub has_other_texts : Data → Bool
has_other_texts d =
    is_other_text (codes "member") d
    || (is_other_text (codes "group") d || (is_other_text (codes "contact") d || (is_other_text (codes "name") d || has_other_names d)))

abbrev pub has_other_kind : Data → EntryNumbers → Bool
has_other_kind d numbers = is_none (as_table d) || (has_other_texts d || (is_fault WrongKind (count_at d) || any_fault WrongKind numbers))

abbrev pub is_empty_list : Data → Bool
is_empty_list d = is_some (get (codes "members") d) && nat_eq (length (members_of d)) 0

abbrev pub has_outside : Data → EntryNumbers → Bool
has_outside d numbers = is_empty_list d || (is_fault OutOfRange (count_at d) || any_fault OutOfRange numbers)

-- ---- rules 6, 7 and 9

abbrev pub has_bad_name : Data → Bool
has_bad_name d = option_map_or (λ name. not (is_written_name name)) (text_at (codes "name") d) false

-- a name that is no member's
abbrev pub is_nobody : List Group → Option (List ℕ) → Bool
is_nobody groups name = option_map_or (λ name. is_none (member_named groups name)) name false

abbrev pub is_no_group : List Group → Option (List ℕ) → Bool
is_no_group groups name = option_map_or (λ name. is_none (group_named groups name)) name false

-- a member or a group that isn't there
abbrev pub names_nobody : List Group → Data → Bool
names_nobody groups d =
    is_nobody groups (text_at (codes "member") d)
    || (is_nobody groups (text_at (codes "contact") d)
    || (is_no_group groups (text_at (codes "group") d) || list_any (λ name. is_nobody groups (as_str name)) (members_of d)))

-- more than a text may have: one of them stands there twice
abbrev pub has_too_many : Data → Bool
has_too_many d = nat_lt 16384 (length (members_of d))

-- ---- the lowest rule of an item

abbrev pub names_rule : ScriptList → List Group → Data → ℕ
names_rule list groups d =
    if has_bad_name d then 6 else if names_nobody groups d then 7 else if excludes list (keys_in d) || has_too_many d then 9 else no_rule

unfoldable pub item_rule : ScriptList → List Group → Data → EntryNumbers → ℕ
item_rule list groups d numbers =
    if lacks_some list d then 2
    else if has_unknown_key list d then 3
    else if has_other_kind d numbers then 4 else if has_outside d numbers then 5 else names_rule list groups d

-- of these items
abbrev pub items_rule : ScriptList → List Group → List WrittenItem → ℕ
items_rule list groups items = fold (λ low it. min low (item_rule list groups (item_of it) it.numbers)) no_rule items

-- ---- of a list

abbrev pub is_so_called : List ℕ → Data → Bool
is_so_called name d = option_map_or (λ other. bytes_eq other name) (text_at (codes "name") d) false

-- two entries have one name
abbrev pub is_name_twice : List Data → Bool
is_name_twice [] = false
is_name_twice (d ∷ ds) = option_map_or (λ name. list_any (is_so_called name) ds) (text_at (codes "name") d) false || is_name_twice ds

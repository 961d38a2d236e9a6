-- The keys of a scenario that a sweep may set, and how they are named.
use Rattle.std.specs.Prelude.{◌≡◌, ◌⊎◌, ℕ, List, [], ◌∷◌, ◌++◌, Bool, true, false, ◌&&◌, ◌||◌, Option, Some, None, Contains, codes, map, filter, find, bytes_eq, if◌then◌else◌}
use Rattle.std.specs.List.{flat_map}
use Rattle.std.specs.Option.{option_map_or}
use Rattle.schema.specs.Schema.{spelling_of, key_rules_of}
use Rattle.schema.specs.declared.schema.FormatKey.{FormatKey}
use Rattle.schema.specs.declared.schema.FormatKey.TheVariants as key
use Rattle.schema.specs.declared.schema.KeyRule.{KeyRule}
use Rattle.schema.specs.declared.schema.Kind.{Kind}
use Rattle.schema.specs.declared.schema.Kind.TheVariants.{Whole, Switch, Table}
use Rattle.schema.specs.declared.schema.Kind.TheVariants as kind
use Rattle.schema.specs.declared.schema.Section.TheVariants.{Top}
use Rattle.schema.specs.declared.schema.Version.TheVariants.{Four}
use Rattle.sweep_plan.specs.Items.{is_item_name, kept_name, item_text}
use Rattle.sweep_plan.specs.SetKeys.{entry_keys, key_spelling}
use Rattle.sweep_plan.specs.declared.entry_keys.EntryKey.{EntryKey}
use Rattle.sweep_plan.specs.declared.set_keys.SetKey.{SetKey}
use Rattle.sweep_plan.specs.declared.set_keys.SetKey.TheVariants.{Plain}
use Rattle.sweep_plan.specs.declared.items.ItemName.{ItemName}
use Rattle.sweep_plan.specs.declared.keys.SweptKey.{SweptKey}

-- a key of the whole text
abbrev pub at_top : FormatKey → SweptKey
at_top k = record { table = None; item = None; key = Plain k }

-- a key of a table of the text, or of a list whose item isn't named
abbrev pub in_table : FormatKey → SetKey → SweptKey
in_table t k = record { table = Some t; item = None; key = k }

-- the same key of the item with this name
abbrev pub of_item : ItemName → SweptKey → SweptKey
of_item item k = record { table = k.table; item = Some item; key = k.key }

-- a table's name, a dot and a key's name
abbrev pub dotted : List ℕ → List ℕ → List ℕ
dotted table name = table ++ 46 ∷ name

-- the name of an item, which has a dot before each of its parts
abbrev pub item_part : Option ItemName → List ℕ
item_part item = option_map_or item_text item []

-- the name of a key: its spelling, or that of its table, the name of its item, a dot and its own
abbrev pub key_name : SweptKey → List ℕ
key_name k = option_map_or (λ t. spelling_of t ++ dotted (item_part k.item) (key_spelling k.key)) k.table (key_spelling k.key)

-- a value of this kind is a whole number or a switch
abbrev pub is_plain : Kind → Bool
is_plain (Whole least most) = true
is_plain Switch = true
is_plain _ = false

-- the keys of a table that have such values
abbrev pub keys_of_table : FormatKey → List KeyRule → List SweptKey
keys_of_table t rows = map (λ row. in_table t (Plain row.key)) (filter (λ row. is_plain row.kind) rows)

-- what a key of the whole text gives by its kind: itself, the keys of its table, or nothing where it is a text or a list
abbrev pub keys_of_kind : FormatKey → Kind → List SweptKey
keys_of_kind k (Whole least most) = at_top k ∷ []
keys_of_kind k Switch = at_top k ∷ []
keys_of_kind k (Table s) = keys_of_table k (key_rules_of Four s)
keys_of_kind k _ = []

-- the same of its row, where it isn't `seed`: seeds are asked for by themselves
abbrev pub keys_of_row : KeyRule → List SweptKey
keys_of_row row = if bytes_eq (spelling_of row.key) (spelling_of key.Seed) then [] else keys_of_kind row.key row.kind

-- the keys that may be set outside lists: those for whole numbers and switches, in the order of the newest version, which has those of all before it
unfoldable pub settable : List SweptKey
settable = flat_map keys_of_row (key_rules_of Four Top)

-- what a list's key gives: the keys of its items that have such values
abbrev pub keys_of_list : FormatKey → Kind → List SweptKey
keys_of_list k (kind.List s) = keys_of_table k (key_rules_of Four s)
keys_of_list k _ = []

abbrev pub keys_of_items : KeyRule → List SweptKey
keys_of_items row = keys_of_list row.key row.kind

-- a key that items of a list have in written texts alone
abbrev pub of_entry : EntryKey → SweptKey
of_entry e = in_table e.list e.key

-- the keys of all lists: those of plain texts, and those that only written texts have
unfoldable pub listed : List SweptKey
listed = flat_map keys_of_items (key_rules_of Four Top) ++ map of_entry entry_keys

-- one of these, of an item of any name that items may have
pub record IsItemKey (k : SweptKey) : Type 0 where
  pub name : List ℕ
  pub sound : is_item_name name ≡ true
  pub key : SweptKey
  pub known : Contains listed key
  pub is : k ≡ of_item (kept_name name) key

-- the key may be set: one outside lists, or of an item of a list
abbrev pub MaySet : SweptKey → Type 0
MaySet k = Contains settable k ⊎ IsItemKey k

-- the word is the name of the key, which may be set
pub record IsKeyNamed (word : List ℕ) (k : SweptKey) : Type 0 where
  pub named : key_name k ≡ word
  pub known : MaySet k

-- the key has this name
abbrev pub is_named : List ℕ → SweptKey → Bool
is_named word k = bytes_eq (key_name k) word

-- the key of this name, among those outside lists that may be set
unfoldable pub key_named : List ℕ → Option SweptKey
key_named word = find (is_named word) settable

-- two tables are spelt alike, or neither is there
abbrev pub are_same_tables : Option FormatKey → Option FormatKey → Bool
are_same_tables None None = true
are_same_tables None (Some t) = false
are_same_tables (Some s) None = false
are_same_tables (Some s) (Some t) = bytes_eq (spelling_of s) (spelling_of t)

-- two items have one name, or neither is there
abbrev pub are_same_items : Option ItemName → Option ItemName → Bool
are_same_items None None = true
are_same_items None (Some b) = false
are_same_items (Some a) None = false
are_same_items (Some a) (Some b) = bytes_eq a.bytes b.bytes

-- two keys are spelt alike, and so are their tables
abbrev pub are_alike : SweptKey → SweptKey → Bool
are_alike a b = bytes_eq (key_spelling a.key) (key_spelling b.key) && are_same_tables a.table b.table

-- two keys are spelt alike, and so are their tables and items
abbrev pub is_same : SweptKey → SweptKey → Bool
is_same a b = are_alike a b && are_same_items a.item b.item

-- the one name is the other one with `.1` behind: where the other one means one item, it means the same
abbrev pub is_first_of : Option ItemName → Option ItemName → Bool
is_first_of (Some a) (Some b) = bytes_eq (item_text a) (item_text b ++ codes ".1")
is_first_of (Some a) None = false
is_first_of None b = false

-- two keys are alike, of names of which the one is the other with `.1` behind
abbrev pub names_first : SweptKey → SweptKey → Bool
names_first a b = are_alike a b && (is_first_of a.item b.item || is_first_of b.item a.item)

-- a key is set where another one is, which stands before it
abbrev pub sets_again : SweptKey → SweptKey → Bool
sets_again key before = is_same key before || names_first before key

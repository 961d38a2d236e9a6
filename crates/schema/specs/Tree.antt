-- What the format calls for in a TOML document.
use Rattle.std.specs.Prelude.{ℕ, List, [], ◌∷◌, Option, Some, map, find, flat_map, bytes_eq}
use Rattle.std.specs.Option.{option_map_or}
use Rattle.toml.specs.Data.{Data, array, table, Items, no_items, item, Members, no_members, member, get}
use Rattle.schema.specs.Schema.{spelling_of, key_rules_of}
use Rattle.schema.specs.declared.schema.KeyRule.{KeyRule}
use Rattle.schema.specs.declared.schema.Version.{Version}
use Rattle.schema.specs.declared.schema.FormatKey.{FormatKey}
use Rattle.schema.specs.declared.schema.Section.{Section}
use Rattle.schema.specs.declared.schema.Section.TheVariants.{Top}
use Rattle.schema.specs.declared.schema.Kind.{Kind}
use Rattle.schema.specs.declared.schema.Kind.TheVariants as kind

-- the value of a key of a table
abbrev pub value_at : FormatKey → Data → Option Data
value_at key d = get (spelling_of key) d

-- the row of the key that is spelt so
abbrev pub rule_named : List KeyRule → List ℕ → Option KeyRule
rule_named rows name = find (λ row. bytes_eq (spelling_of row.key) name) rows

-- the keys of a table
abbrev pub keys_in : Members → List (List ℕ)
keys_in no_members = []
keys_in (member key d ms) = key ∷ keys_in ms

abbrev pub keys_of : Data → List (List ℕ)
keys_of (table ms) = keys_in ms
keys_of _ = []

-- the items of a list
abbrev pub list_of : Items → List Data
list_of no_items = []
list_of (item d ds) = d ∷ list_of ds

abbrev pub items_of : Data → List Data
items_of (array ds) = list_of ds
items_of _ = []

-- the items of the list of a key
abbrev pub items_at : FormatKey → Data → List Data
items_at key d = option_map_or items_of (value_at key d) []

-- a value that has to be a table of this section
pub record SectionTable : Type 0 where
  pub section : Section
  pub value : Data

abbrev pub section_table : Section → Data → SectionTable
section_table s d = record { section = s; value = d }

-- what has to be a table because of its key's kind: the key's value, or each item of its list
abbrev pub tables_at : Kind → Option Data → List SectionTable
tables_at (kind.Table s) (Some d) = section_table s d ∷ []
tables_at (kind.List s) (Some d) = map (section_table s) (items_of d)
tables_at _ _ = []

abbrev pub tables_below : Data → KeyRule → List SectionTable
tables_below tree row = tables_at row.kind (value_at row.key tree)

-- all that has to be a table: the whole text, and what its keys call for
unfoldable pub tables_of : Version → Data → List SectionTable
tables_of v tree = section_table Top tree ∷ flat_map (tables_below tree) (key_rules_of v Top)

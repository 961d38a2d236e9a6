-- The document of a setting: that of a text, with the setting's values and seed in it.
use Rattle.std.specs.Prelude.{ℕ, pos, Bool, List, Option, Some, None, fold, if◌then◌else◌, map, unwrap_or}
use Rattle.std.specs.List.{zip}
use Rattle.std.specs.Ordering.{nat_cmp, match_ordering}
use Rattle.std.specs.Cmp.Lexicographic.{slice_cmp}
use Rattle.std.specs.Option.{option_map_or}
use Rattle.toml.specs.Data.{Data, integer, boolean, array, table, Members, no_members, member}
use Rattle.toml.specs.View.{items_of as as_items}
use Rattle.schema.specs.Tree.{list_of, value_at}
use Rattle.schema.specs.declared.schema.FormatKey.{FormatKey}
use Rattle.schema.specs.declared.schema.FormatKey.TheVariants as key
use Rattle.sweep_plan.specs.Items.{item_text}
use Rattle.sweep_plan.specs.Meant.{marks_of}
use Rattle.sweep_plan.specs.SetKeys.{key_spelling}
use Rattle.sweep_plan.specs.declared.set_keys.SetKey.{SetKey}
use Rattle.sweep_plan.specs.declared.set_keys.SetKey.TheVariants.{Plain}
use Rattle.sweep_plan.specs.declared.items.ItemName.{ItemName}
use Rattle.sweep_plan.specs.declared.values.SweptValue.{SweptValue}
use Rattle.sweep_plan.specs.declared.values.SweptValue.TheVariants.{Whole, Switch}
use Rattle.sweep_plan.specs.declared.choice.Choice.{Choice}

-- the value as it stands in a document
abbrev pub data_of : SweptValue → Data
data_of (Whole n) = integer (pos n)
data_of (Switch b) = boolean b

-- the members, which stand in the order of their names, with this one: in the place of that of its name, or where it belongs
abbrev pub put : List ℕ → Data → Members → Members
put name d no_members = member name d no_members
put name d (member other e more) = match_ordering (slice_cmp nat_cmp name other) (member name d (member other e more)) (member other d more) (member other e (put name d more))

-- a table with this value at this key; what is no table stays as it is
abbrev pub with_key : SetKey → Data → Data → Data
with_key k d (table members) = table (put (key_spelling k) d members)
with_key k d other = other

-- the same at a key of plain texts
abbrev pub with_entry : FormatKey → Data → Data → Data
with_entry k d tree = with_key (Plain k) d tree

-- what stands at the key of a table; an empty table where nothing does
abbrev pub table_at : FormatKey → Data → Data
table_at t tree = unwrap_or (value_at t tree) (table no_members)

-- an item that is meant, with the value at this key; any other stays
abbrev pub with_item : SetKey → Data → Bool → Data → Data
with_item k d meant one = if meant then with_key k d one else one

-- items, with the value in those that are marked
abbrev pub with_marked : SetKey → Data → List Bool → List Data → List Data
with_marked k d marks items = map (λ it. with_item k d it.0 it.1) (zip marks items)

-- a list with the value in its items that the name means; what is no list stays as it is
abbrev pub with_items : List ℕ → SetKey → Data → Data → Data
with_items name k d (array items) = array (as_items (with_marked k d (marks_of name (list_of items)) (list_of items)))
with_items name k d other = other

-- the list that stands at a key, with the value in its items that the name means; where nothing stands there, all stays
abbrev pub with_listed : FormatKey → List ℕ → SetKey → Data → Data → Data
with_listed t name k d tree = option_map_or (λ list. with_entry t (with_items name k d list) tree) (value_at t tree) tree

-- The value is put at a key of the whole text, of the table that stands in it, which is made where it isn't there, or of an item of a list. What
-- stands in a table's place and is none stays, so that the document is refused as without the value.
abbrev pub with_value_in : Option FormatKey → Option ItemName → SetKey → Data → Data → Data
with_value_in None item k d tree = with_key k d tree
with_value_in (Some t) None k d tree = with_entry t (with_key k d (table_at t tree)) tree
with_value_in (Some t) (Some item) k d tree = with_listed t (item_text item) k d tree

abbrev pub with_choice : Data → Choice → Data
with_choice tree c = with_value_in c.key.table c.key.item c.key.key (data_of c.value) tree

-- the seed takes the place of the text's, where one is given
abbrev pub with_seed : Option ℕ → Data → Data
with_seed None tree = tree
with_seed (Some seed) tree = with_entry key.Seed (integer (pos seed)) tree

-- the document with the values of a setting and the seed of a run
unfoldable pub with_values : Data → List Choice → Option ℕ → Data
with_values tree setting seed = with_seed seed (fold with_choice tree setting)

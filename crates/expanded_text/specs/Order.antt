-- The keys of a document in the order in which its tables hold them, which is one, whatever the order of a text is.
use Rattle.std.specs.Prelude.{ℕ, List, [], ◌∷◌, map, Option, Some}
use Rattle.toml.specs.Data.{Data, array, get, table}
use Rattle.schema.specs.Tree.{keys_in, keys_of, list_of}
use Rattle.plain_document.specs.Order.{Section}

-- the keys of a table, or of each item of a list; none of another value
abbrev pub tree_items : Option Data → List (List (List ℕ))
tree_items (Some (array ds)) = map keys_of (list_of ds)
tree_items (Some (table ms)) = keys_in ms ∷ []
tree_items value = []

abbrev pub tree_section : Data → List ℕ → Section
tree_section d name = record { name = name; items = tree_items (get name d) }

abbrev pub tree_order : Data → List Section
tree_order d = map (tree_section d) (keys_of d)

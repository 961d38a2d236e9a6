-- The keys of a document in the order of its text. Places are numbered in the order in which the text first names them.
use Rattle.std.specs.Prelude.{◌≡◌, ℕ, ◌+◌, List, [], ◌∷◌, map, Option, Some, option_and_then, unwrap_or, String, string_bytes}
use Rattle.std.specs.List.{AllByRecursion, IsDistinct}
use Rattle.std.specs.List.Sorted.{IsNonDecreasingBy, IsPermutation}
use Rattle.std.specs.declared.alloc.Global.{Global}
use Rattle.toml.specs.Data.{Data, array, get, same_key, table}
use Rattle.toml_places.specs.declared.places.Places.{Places}
use Rattle.toml_places.specs.Found.{content_at, item_of, value_of}
use Rattle.schema.specs.Tree.{keys_in, keys_of, list_of}
use Rattle.plain_document.specs.declared.order.DocumentOrder.{DocumentOrder}
use Rattle.plain_document.specs.declared.order.SectionOrder.{SectionOrder}

-- the bytes of names
abbrev pub words : List (String Global) → List (List ℕ)
words names = map string_bytes names

-- a key of the top, and the keys of its table, or of each item of its list
pub record Section : Type 0 where
  pub name : List ℕ
  pub items : List (List (List ℕ))

abbrev pub section_of : SectionOrder → Section
section_of it = record { name = string_bytes it.name; items = map (λ keys. words keys.items) it.items.items }

abbrev pub sections_of : DocumentOrder → List Section
sections_of order = map section_of order.sections.items

abbrev pub names_of : List Section → List (List ℕ)
names_of sections = map (λ (section : Section). section.name) sections

-- ---- places

-- the place of the value of a key of the table at a place
abbrev pub value_at : Places → (above : Option ℕ) → (key : List ℕ) → Option ℕ
value_at places above key = option_and_then (λ place. option_and_then (value_of key) (content_at places place)) above

-- the place of the item of a number in the list at a place
abbrev pub item_at : Places → (list : Option ℕ) → (number : ℕ) → Option ℕ
item_at places list number = option_and_then (λ place. option_and_then (item_of number) (content_at places place)) list

-- 0, the number of the whole text, where there is no place
abbrev pub number_of : Places → (above : Option ℕ) → (key : List ℕ) → ℕ
number_of places above key = unwrap_or (value_at places above key) 0

-- ---- orders

-- the keys of a table at a place, each once, in the order of the text
pub record AreKeysOrdered (places : Places) (above : Option ℕ) (keys ordered : List (List ℕ)) : Type 0 where
  pub same : IsPermutation keys ordered
  pub once : IsDistinct same_key ordered
  pub rising : IsNonDecreasingBy (number_of places above) ordered

-- those of each item of a list at a place, from the item of this number on
abbrev pub AreItemsOrdered : Places → (list : Option ℕ) → (number : ℕ) → List Data → List (List (List ℕ)) → Type 0
AreItemsOrdered places list number [] [] = Unit {0}
AreItemsOrdered places list number (d ∷ ds) (keys ∷ more) =
    AreKeysOrdered places (item_at places list number) (keys_of d) keys × AreItemsOrdered places list (number + 1) ds more
AreItemsOrdered places list number ds keys = ⊥

-- those of a table at a place, or of each item of a list there; none of another value
abbrev pub IsOrderedBelow : Places → (place : Option ℕ) → Option Data → List (List (List ℕ)) → Type 0
IsOrderedBelow places place (Some (array ds)) below = AreItemsOrdered places place 0 (list_of ds) below
IsOrderedBelow places place (Some (table ms)) below = (keys : List (List ℕ)) × AreKeysOrdered places place (keys_in ms) keys × (below ≡ keys ∷ [])
IsOrderedBelow places place value below = below ≡ []

abbrev pub IsSectionOrdered : Places → Data → Section → Type 0
IsSectionOrdered places d section = IsOrderedBelow places (value_at places (Some 0) section.name) (get section.name d) section.items

-- the sections are the keys of the top, each once, with the keys below each of them
pub record IsOrderedDocument (places : Places) (d : Data) (sections : List Section) : Type 0 where
  pub top : AreKeysOrdered places (Some 0) (keys_of d) (names_of sections)
  pub below : AllByRecursion (IsSectionOrdered places d) sections

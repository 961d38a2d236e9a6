-- A document that is plain: each value stands for itself, no key is gone, and nothing goes both ways. Its own lines are a line
-- for each key with its own value.
use Rattle.std.specs.Prelude.{◌≡◌, ℕ, false, List, [], ◌∷◌, ◌++◌, flat_map, Option, Some, None}
use Rattle.std.specs.List.{AllByRecursion}
use Rattle.toml.specs.Data.{Data, array, get, table}
use Rattle.toml.specs.Tables.{Expression, array_table, key_value, std_table}
use Rattle.schema.specs.Tree.{list_of}
use Rattle.plain_document.specs.Document.{last_lines, lines_of_part}
use Rattle.plain_document.specs.Keys.{kind_of}
use Rattle.plain_document.specs.Order.{names_of, Section}
use Rattle.plain_document.specs.Pairs.{goes_both_ways}
use Rattle.plain_document.specs.Values.{IsPlainOf}
use Rattle.plain_document.specs.declared.document.PlainParts.{PlainParts}
use Rattle.plain_document.specs.declared.keys.KeyKind.{KeyKind}

-- a value that is there stands for itself, however long a tick is; tables and lists aren't values
abbrev pub StaysAt : KeyKind → Option Data → Type 0
StaysAt kind None = Unit {0}
StaysAt kind (Some (array ds)) = Unit {0}
StaysAt kind (Some (table ms)) = Unit {0}
StaysAt kind (Some d) = (tick : ℕ) → IsPlainOf tick kind d d

abbrev pub own_line : List ℕ → Option Data → List Expression
own_line key None = []
own_line key (Some (array ds)) = []
own_line key (Some (table ms)) = []
own_line key (Some d) = (([], key), key_value d) ∷ []

-- ---- a table

abbrev pub StayIn : (section : List ℕ) → Data → List (List ℕ) → Type 0
StayIn section d keys = AllByRecursion (λ key. StaysAt (kind_of section key) (get key d)) keys

abbrev pub own_pairs : Data → List (List ℕ) → List Expression
own_pairs d keys = flat_map (λ key. own_line key (get key d)) keys

-- ---- items

abbrev pub ItemsStay : (name : List ℕ) → List Data → List (List (List ℕ)) → Type 0
ItemsStay name [] keys = Unit {0}
ItemsStay name (d ∷ ds) [] = Unit {0}
ItemsStay name (d ∷ ds) (keys ∷ more) = (goes_both_ways name d ≡ false) × StayIn name d keys × ItemsStay name ds more

abbrev pub own_items : (name : List ℕ) → List Data → List (List (List ℕ)) → List Expression
own_items name [] keys = []
own_items name (d ∷ ds) [] = []
own_items name (d ∷ ds) (keys ∷ more) = (([], name), array_table) ∷ (own_pairs d keys ++ own_items name ds more)

-- ---- sections

abbrev pub StaysBelow : (name : List ℕ) → Option Data → List (List (List ℕ)) → Type 0
StaysBelow name (Some (array ds)) keys = ItemsStay name (list_of ds) keys
StaysBelow name (Some (table ms)) (keys ∷ more) = StayIn name (table ms) keys
StaysBelow name value keys = Unit {0}

abbrev pub own_below : (name : List ℕ) → Option Data → List (List (List ℕ)) → List Expression
own_below name (Some (array ds)) keys = own_items name (list_of ds) keys
own_below name (Some (table ms)) (keys ∷ more) = (([], name), std_table) ∷ own_pairs (table ms) keys
own_below name value keys = []

-- a section other than the six lists
abbrev pub SectionStays : Data → Option (List Expression) → Section → Type 0
SectionStays d (Some lines) section = Unit {0}
SectionStays d None section = StaysBelow section.name (get section.name d) section.items

-- the lines of one of the six lists, else the section's own
abbrev pub own_part : Data → Option (List Expression) → Section → List Expression
own_part d (Some lines) section = lines
own_part d None section = own_below section.name (get section.name d) section.items

-- `parts` are the plain entries, which stand for the six lists
pub record IsPlainDocument (d : Data) (parts : PlainParts) (sections : List Section) : Type 0 where
  pub top : StayIn [] d (names_of sections)
  pub below : AllByRecursion (λ (section : Section). SectionStays d (lines_of_part parts section.name) section) sections

abbrev pub own_sections : Data → PlainParts → List Section → List Expression
own_sections d parts sections = flat_map (λ (section : Section). own_part d (lines_of_part parts section.name) section) sections

abbrev pub own_document : Data → PlainParts → List Section → List Expression
own_document d parts sections = own_pairs d (names_of sections) ++ own_sections d parts sections ++ last_lines d parts

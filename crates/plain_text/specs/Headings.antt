-- A text of the top's keys, and then of tables and lists: its lines, and what it holds once it is read.
use Rattle.std.specs.Prelude.{◌≡◌, ℕ, if◌then◌else◌, List, [], ◌∷◌, map, flat_map, Option, Some, None}
use Rattle.std.specs.List.{AllByRecursion}
use Rattle.toml.specs.Data.{Data, Items, Members, array, get_member, item, no_items, same_key, table}
use Rattle.toml.specs.Tables.{Expression, array_table, key_value, std_table}

-- keys with their values
abbrev pub Pairs : Type 0
Pairs = List (List ℕ × Data)

-- a table, or a list item by item
pub data Headed : Type 0 where
  a_table : Pairs → Headed
  a_list : List Pairs → Headed

pub record Heading : Type 0 where
  pub name : List ℕ
  pub below : Headed

-- ---- lines

abbrev pub pair_lines : Pairs → List Expression
pair_lines pairs = map (λ pair. (([], pair.0), key_value pair.1)) pairs

abbrev pub item_lines : (name : List ℕ) → Pairs → List Expression
item_lines name pairs = (([], name), array_table) ∷ pair_lines pairs

abbrev pub headed_lines : (name : List ℕ) → Headed → List Expression
headed_lines name (a_table pairs) = (([], name), std_table) ∷ pair_lines pairs
headed_lines name (a_list items) = flat_map (item_lines name) items

abbrev pub lines_under : List Heading → List Expression
lines_under headings = flat_map (λ (heading : Heading). headed_lines heading.name heading.below) headings

-- ---- no key twice

-- the value of a key
abbrev pub found : (key : List ℕ) → Pairs → Option Data
found key [] = None
found key (pair ∷ pairs) = if same_key key pair.0 then Some pair.1 else found key pairs

-- what stands below the heading of a name
abbrev pub named : (name : List ℕ) → List Heading → Option Headed
named name [] = None
named name (heading ∷ headings) = if same_key name heading.name then Some heading.below else named name headings

abbrev pub IsEachOnce : Pairs → Type 0
IsEachOnce [] = Unit {0}
IsEachOnce (pair ∷ pairs) = (found pair.0 pairs ≡ None) × IsEachOnce pairs

abbrev pub IsEachOnceBelow : Headed → Type 0
IsEachOnceBelow (a_table pairs) = IsEachOnce pairs
IsEachOnceBelow (a_list items) = AllByRecursion IsEachOnce items

-- the name of each heading is no key of the top, and no other's
abbrev pub AreApart : (top : Pairs) → List Heading → Type 0
AreApart top [] = Unit {0}
AreApart top (heading ∷ headings) =
    (found heading.name top ≡ None) × (named heading.name headings ≡ None) × IsEachOnceBelow heading.below × AreApart top headings

-- ---- what it holds

abbrev pub IsTableOf : Pairs → Members → Type 0
IsTableOf pairs ms = (key : List ℕ) → get_member key ms ≡ found key pairs

abbrev pub AreItemsOf : List Pairs → Items → Type 0
AreItemsOf [] no_items = Unit {0}
AreItemsOf (pairs ∷ more) (item (table ms) ds) = IsTableOf pairs ms × AreItemsOf more ds
AreItemsOf _ _ = ⊥

-- a list without an item isn't there
abbrev pub IsHeaded : Option Headed → Option Data → Type 0
IsHeaded None d = d ≡ None
IsHeaded (Some (a_list [])) d = d ≡ None
IsHeaded (Some (a_list (pairs ∷ more))) d = (ds : Items) × AreItemsOf (pairs ∷ more) ds × (d ≡ Some (array ds))
IsHeaded (Some (a_table pairs)) d = (ms : Members) × IsTableOf pairs ms × (d ≡ Some (table ms))

-- a value of the top, else what stands below the heading
abbrev pub IsValueOr : Option Data → Option Headed → Option Data → Type 0
IsValueOr (Some value) headed d = d ≡ Some value
IsValueOr None headed d = IsHeaded headed d

-- what stands at each key of the document
abbrev pub Holds : (top : Pairs) → List Heading → Members → Type 0
Holds top headings ms = (key : List ℕ) → IsValueOr (found key top) (named key headings) (get_member key ms)

-- Why the key of an item means no item of a document, or more than one: what a reason says is true of the document.
use Rattle.std.specs.Prelude.{◌≡◌, ◌≤◌, ℕ, List, ◌∷◌, ◌++◌, codes, string_bytes}
use Rattle.std.specs.Fmt.{decimal}
use Rattle.toml.specs.Data.{Data}
use Rattle.sweep_plan.specs.Keys.{IsKeyNamed}
use Rattle.sweep_plan.specs.Missing.{meant_count}
use Rattle.sweep_plan.specs.declared.keys.SweptKey.{SweptKey}
use Rattle.reasons.specs.declared.items.ItemReason.{ItemReason}
use Rattle.reasons.specs.declared.items.ItemReason.TheVariants.{Absent, Many, PastLast}

-- the word is the name of a key that means so many items
pub record Means (tree : Data) (word : List ℕ) (count : ℕ) : Type 0 where
  pub key : SweptKey
  pub named : IsKeyNamed word key
  pub counted : count ≡ meant_count tree key.table key.item

-- the word is a name and a key's own name behind a dot, and means so many items, more than one; the first is set by the name, `.1` and the key's own name
pub record IsAmbiguous (tree : Data) (word name : List ℕ) (count : ℕ) (first : List ℕ) : Type 0 where
  pub own : List ℕ
  pub written : word ≡ name ++ 46 ∷ own
  pub means : Means tree word count
  pub several : 2 ≤ count
  pub is_first : first ≡ name ++ (codes ".1." ++ own)

-- the word is a name with a number behind, and a key's own name; without the number it means so many items, and the last is set by their number
pub record IsPastLast (tree : Data) (word name stem : List ℕ) (count : ℕ) (last : List ℕ) : Type 0 where
  pub own : List ℕ
  pub number : ℕ
  pub written : word ≡ name ++ 46 ∷ own
  pub numbered : name ≡ stem ++ 46 ∷ decimal number
  pub means : Means tree (stem ++ 46 ∷ own) count
  pub some : 1 ≤ count
  pub is_last : last ≡ stem ++ 46 ∷ decimal count ++ 46 ∷ own

-- what a reason says of the word; that no item has the name is said where nothing else is found
abbrev pub IsItemReason : Data → List ℕ → ItemReason → Type 0
IsItemReason tree word (Absent key) = string_bytes key ≡ word
IsItemReason tree word (Many name count first) = IsAmbiguous tree word (string_bytes name) count (string_bytes first)
IsItemReason tree word (PastLast name stem count last) = IsPastLast tree word (string_bytes name) (string_bytes stem) count (string_bytes last)

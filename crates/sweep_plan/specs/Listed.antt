-- Keys of items in words.
use Rattle.std.specs.Prelude.{◌≡◌, ℕ, List, ◌∷◌, ◌++◌, true, All, Contains}
use Rattle.sweep_plan.specs.Items.{is_item_name, kept_name}
use Rattle.sweep_plan.specs.Keys.{key_name, of_item}
use Rattle.sweep_plan.specs.declared.items.ItemName.{ItemName}
use Rattle.sweep_plan.specs.declared.keys.SweptKey.{SweptKey}

-- the word is a list's name, that of this item, a dot and a key's name
pub record IsItemIn (list key word : List ℕ) (item : ItemName) : Type 0 where
  pub name : List ℕ
  pub sound : is_item_name name ≡ true
  pub kept : item ≡ kept_name name
  pub written : list ++ (name ++ 46 ∷ key) ≡ word

-- the key is one of these keys, of an item, and the word is its name
pub record IsNamedIn (keys : List SweptKey) (word : List ℕ) (k : SweptKey) : Type 0 where
  pub name : List ℕ
  pub sound : is_item_name name ≡ true
  pub key : SweptKey
  pub known : Contains keys key
  pub is : k ≡ of_item (kept_name name) key
  pub named : key_name k ≡ word

-- the word isn't the name of the key, of whatever item
abbrev pub IsNoName : List ℕ → SweptKey → Type 0
IsNoName word k = (name : List ℕ) → is_item_name name ≡ true → ¬ (key_name (of_item (kept_name name) k) ≡ word)

-- nor that of any of these
abbrev pub NamesNone : List SweptKey → List ℕ → Type 0
NamesNone keys word = All (IsNoName word) keys

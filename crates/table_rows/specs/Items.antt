-- What stands in a text one after the other: lines, and settings, which have several.
use Rattle.std.specs.Prelude.{◌≡◌, ℕ, List, ◌++◌, All, length}
use Rattle.std.specs.List.{flat_map}

-- the text begins with one of these, which is sound and written so, and this is left
pub record BeginsWith {X : Type 0} (Sound : X → Type 0) (text_of : X → List ℕ) (text left : List ℕ) : Type 0 where
  pub one : X
  pub sound : Sound one
  pub written : text ≡ text_of one ++ left

-- the text is so many of them
pub record IsAllOf {X : Type 0} (Sound : X → Type 0) (text_of : X → List ℕ) (text : List ℕ) (count : ℕ) : Type 0 where
  pub items : List X
  pub many : length items ≡ count
  pub sound : All Sound items
  pub written : text ≡ flat_map text_of items

-- Names that end with a number, and how items of a name are counted.
use Rattle.std.specs.Prelude.{◌≡◌, ℕ, ◌<◌, ◌^◌, ◌==◌, ◌&&◌, List, ◌∷◌, ◌++◌, Bool, false, Option, Some, None, bytes_eq}
use Rattle.std.specs.Fmt.{decimal}
use Rattle.sweep_plan.specs.declared.meant.Numbered.{Numbered}

-- the name is another one, a dot and a number
pub record IsNumbered (name stem : List ℕ) (number : ℕ) : Type 0 where
  pub written : stem ++ 46 ∷ decimal number ≡ name
  pub low : number < 2 ^ 63

-- the name is cut so; it isn't where it is no other one with a number
abbrev pub IsCut : List ℕ → Option Numbered → Type 0
IsCut name None = (stem : List ℕ) (number : ℕ) → ¬ (IsNumbered name stem number)
IsCut name (Some cut) = IsNumbered name cut.stem.now cut.number

-- an item of this name is one of those that have numbers
abbrev pub is_stem : Option Numbered → List ℕ → Bool
is_stem None own = false
is_stem (Some cut) own = bytes_eq own cut.stem.now

-- it is the one whose number is looked for, where so many have been found with it
abbrev pub is_numbered : Option Numbered → ℕ → List ℕ → Bool
is_numbered None found own = false
is_numbered (Some cut) found own = bytes_eq own cut.stem.now && (found == cut.number)

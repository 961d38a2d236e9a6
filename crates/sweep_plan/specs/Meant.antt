-- Which items of a list a name means.
use Rattle.std.specs.Prelude.{ℕ, ◌+◌, List, [], ◌∷◌, ◌++◌, Bool, ◌||◌, bytes_eq, map}
use Rattle.std.specs.List.{count_by}
use Rattle.std.specs.Fmt.{decimal}
use Rattle.toml.specs.Data.{Data}
use Rattle.sweep_plan.specs.Items.{name_of_item}

-- the number of an item of this name behind others: from 1 in the order of the list, among those of its name
abbrev pub number_behind : List (List ℕ) → List ℕ → ℕ
number_behind before own = count_by (λ one. bytes_eq one own) before + 1

-- an item is meant by its name, and by its name, a dot and its number
abbrev pub is_meant : List ℕ → List (List ℕ) → List ℕ → Bool
is_meant text before own = bytes_eq own text || bytes_eq (own ++ 46 ∷ decimal (number_behind before own)) text

-- which of the items with these names, behind those with others, are meant
abbrev pub marks : List ℕ → List (List ℕ) → List (List ℕ) → List Bool
marks text before [] = []
marks text before (own ∷ more) = is_meant text before own ∷ marks text (before ++ own ∷ []) more

-- which items of a list are meant
abbrev pub marks_of : List ℕ → List Data → List Bool
marks_of text items = marks text [] (map name_of_item items)

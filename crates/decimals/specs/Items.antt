-- The items of a list that a word is.
use Rattle.std.specs.Prelude.{ℕ, ◌==◌, List}
use Rattle.std.specs.List.{slice_split}

-- what stands between the commas
abbrev pub list_items : List ℕ → List (List ℕ)
list_items list = slice_split (λ byte. byte == 44) list

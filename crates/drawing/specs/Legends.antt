-- Entries of legends: a colour, and what it stands for.
use Rattle.std.specs.Prelude.{ℕ, List, ◌++◌, codes}
use Rattle.drawing.specs.Escaped.{escaped}
use Rattle.drawing.specs.Numbers.{grouped}

-- the colour of a class of the palette begins an entry
unfoldable pub swatch : List ℕ → List ℕ
swatch class = codes "<li><svg class=\"swatch\" viewBox=\"0 0 10 10\" aria-hidden=\"true\"><rect class=\"" ++ class ++ codes "\" width=\"10\" height=\"10\"/></svg>"

-- an entry
unfoldable pub entry : List ℕ → List ℕ → List ℕ
entry class words = swatch class ++ escaped words ++ codes "</li>"

-- an entry with how many there are of it
unfoldable pub counted_entry : List ℕ → List ℕ → ℕ → List ℕ
counted_entry class words count = swatch class ++ escaped words ++ codes " " ++ grouped count ++ codes "</li>"

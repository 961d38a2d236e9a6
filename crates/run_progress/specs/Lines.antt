-- The line that says how far a run has come.
use Rattle.std.specs.Prelude.{ℕ, List, [], ◌∷◌, ◌++◌, ◌*◌, ◌/◌, ◌%◌, max, min, codes, decimal}

-- how many of so many equal shares of a run to that end are over at a moment of it
abbrev pub shares_passed : ℕ → ℕ → ℕ → ℕ
shares_passed at end shares = min (at * shares / max end 1) shares

-- how many percent of the run are over, at which moment it is, up to which it goes, and how many millions of rows have
-- passed, with one decimal
unfoldable pub passed_line : ℕ → ℕ → ℕ → List ℕ
passed_line at end rows =
    decimal (shares_passed at end 100) ++ codes " %, moment " ++ decimal at ++ codes " of " ++ decimal end ++ codes ", "
    ++ decimal (rows / 1000000) ++ codes "." ++ decimal (rows % 1000000 / 100000)
    ++ codes " million rows" ++ 10 ∷ []

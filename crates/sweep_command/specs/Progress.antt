-- What is printed of how far a sweep has come.
use Rattle.std.specs.Prelude.{ℕ, List, [], ◌∷◌, ◌++◌, ◌*◌, ◌/◌, max, min, codes, decimal}

-- how many of so many equal shares of a whole are over where so much of it has passed
abbrev pub shares_over : ℕ → ℕ → ℕ → ℕ
shares_over passed whole shares = min (passed * shares / max whole 1) shares

-- how many of all runs were made, and how many percent of the whole have passed
unfoldable pub runs_line : ℕ → ℕ → ℕ → List ℕ
runs_line made all percent = decimal made ++ codes "/" ++ decimal all ++ codes " runs, " ++ decimal percent ++ codes " %" ++ 10 ∷ []

-- Places in a text: ranges of its bytes, lines and columns.
use Rattle.std.specs.Prelude.{ℕ, ◌+◌, ◌≤◌, ◌&&◌, List, [], ◌∷◌, if◌then◌else◌, nat_eq, nat_le, nat_lt}
use Rattle.toml_places.specs.declared.span.Span.{Span}

-- the range lies in a text of this length
abbrev pub IsWithin : ℕ → Span → Type 0
IsWithin size s = (s.start ≤ s.end) × (s.end ≤ size)

-- the line after a byte: a line feed ends one
abbrev pub next_line : ℕ → ℕ → ℕ
next_line line byte = if nat_eq byte 10 then line + 1 else line

-- the column after a byte: a line feed leads to the first, and a byte of 128 to 191 goes on with a character
abbrev pub next_column : ℕ → ℕ → ℕ
next_column column byte = if nat_eq byte 10 then 1 else if nat_le 128 byte && nat_lt byte 192 then column else column + 1

-- the line after bytes
abbrev pub line_from : ℕ → List ℕ → ℕ
line_from line [] = line
line_from line (b ∷ bs) = line_from (next_line line b) bs

-- the column after bytes
abbrev pub column_from : ℕ → List ℕ → ℕ
column_from column [] = column
column_from column (b ∷ bs) = column_from (next_column column b) bs

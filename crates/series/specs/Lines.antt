-- The lines of a trace on which rows stand.
use Rattle.std.specs.Prelude.{ℕ, ◌+◌, Bool, cond, List, [], ◌∷◌}
use Rattle.trace.specs.declared.row.Row.{Row}
use Rattle.series.specs.declared.lines.TraceLine.{TraceLine}

-- what is kept of a row on a line of that number: when it was written, and at which member
abbrev pub line_at : ℕ → Row → TraceLine
line_at number row = record { number = number; at = row.at; member = row.member }

-- the rows that pass a test, where the first one stands on the line of that number
abbrev pub lines_from : ℕ → (Row → Bool) → List Row → List TraceLine
lines_from number test [] = []
lines_from number test (row ∷ rows) = cond (test row) (line_at number row ∷ lines_from (number + 1) test rows) (lines_from (number + 1) test rows)

-- the rows of a trace that pass a test; its header stands on line 1
abbrev pub lines_of : (Row → Bool) → List Row → List TraceLine
lines_of test rows = lines_from 2 test rows

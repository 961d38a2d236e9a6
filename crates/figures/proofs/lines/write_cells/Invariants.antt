use Rattle.std.proofs.Common.{ℕ, List, ◌++◌, map, take}
use Rattle.figures.specs.Lines.{HasLaidOut, cell}
use Rattle.figures.proofs.lines.write_cells.Given as goal

-- the figures so far are written
abbrev pub invariant-loop-figure : goal.invariant-loop-figure
invariant-loop-figure l = (fields : List (List ℕ)) → HasLaidOut l.fn.writer fields → HasLaidOut l.writer (fields ++ map cell (take l.figure-index l.figures))

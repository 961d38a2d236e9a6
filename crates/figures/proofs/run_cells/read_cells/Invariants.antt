use Rattle.std.proofs.Common.{List, ℕ, Bor, map}
use Rattle.figures.specs.Lines.{cell}
use Rattle.figures.specs.Notes.{AreWordsOf}
use Rattle.figures.proofs.run_cells.read_cells.Given as goal

abbrev pub invariant-loop-item : goal.invariant-loop-item
invariant-loop-item l = AreWordsOf cell (map (λ (item : Bor (List ℕ)). item.now) l.yielded) l.cells.items

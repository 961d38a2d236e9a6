use Rattle.std.proofs.Common.{List, ℕ, Bor, map}
use Rattle.figures.specs.Notes.{AreFigureWords}
use Rattle.figures.proofs.note_words.read_figures.Given as goal

abbrev pub invariant-loop-item : goal.invariant-loop-item
invariant-loop-item l = AreFigureWords (map (λ (item : Bor (List ℕ)). item.now) l.yielded) l.figures.items

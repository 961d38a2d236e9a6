use Rattle.std.proofs.Common.{ℕ, List, ◌++◌, map, take}
use Rattle.figures.specs.Lines.{HasLaidOut}
use Rattle.figures.proofs.lines.write_texts.Given as goal

-- the texts so far are written
abbrev pub invariant-loop-text : goal.invariant-loop-text
invariant-loop-text l = (fields : List (List ℕ)) → HasLaidOut l.fn.writer fields → HasLaidOut l.writer (fields ++ map (λ text. text.now) (take l.text-index l.texts))

use Rattle.std.proofs.Common.{◌≡◌, ◌++◌, map, take}
use Rattle.std.specs.String.{string_bytes}
use Rattle.figures.proofs.columns.push_texts.Given as goal

-- the texts so far are added
abbrev pub invariant-loop-text : goal.invariant-loop-text
invariant-loop-text l = map string_bytes l.texts.items ≡ map string_bytes l.fn.texts.items ++ map (λ text. text.now) (take l.text-index l.more)

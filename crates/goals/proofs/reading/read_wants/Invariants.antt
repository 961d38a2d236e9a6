use Rattle.std.proofs.Common.{ℕ, List, Bor, map, take}
use Rattle.goals.specs.Words.{AreWants}
use Rattle.goals.proofs.reading.read_wants.Given as goal

-- the words so far want these
abbrev pub invariant-loop-word : goal.invariant-loop-word
invariant-loop-word l = AreWants (map (λ (word : Bor (List ℕ)). word.now) (take l.word-index l.words)) l.wants.items

use Rattle.std.proofs.Common.{ℕ}
use Rattle.scenario.specs.Setup.{Setup}
use Rattle.lookahead.specs.Lengths.{weight}
use Rattle.lookahead.specs.Walks.{AreLengthsOfWalks}
use Rattle.lookahead.proofs.settle.settle.Given as goal

abbrev pub invariant-loop : goal.invariant-loop
invariant-loop l = (s : Setup) (division : ℕ → ℕ) (between : ℕ → ℕ → ℕ) → AreLengthsOfWalks l.parts s division between l.fn.lengths → AreLengthsOfWalks l.parts s division between l.lengths

abbrev pub decreases-loop : goal.decreases-loop
decreases-loop l = weight l.lengths

use Rattle.std.proofs.Common.{◌≡◌, ℕ, ◌+◌, ◌*◌, ◌<◌, ◌≤◌, List, Option}
use Rattle.std.specs.Bool.{OnTrue, OnFalse}
use Rattle.scenario.specs.Setup.{Setup}
use Rattle.lookahead.specs.Lengths.{weight, IsSettledAt}
use Rattle.lookahead.specs.Walks.{AreLengthsOfWalks}
use Rattle.lookahead.proofs.settle.shorten_each.Given as goal

-- up to a place, no length can be made less, and none was
pub record IsSettledUpTo (parts place : ℕ) (before lengths : List (Option ℕ)) : Type 0 where
  pub same : lengths ≡ before
  pub settled : (from to : ℕ) → from < parts → to < 64 → 64 * from + to < place → IsSettledAt parts before from to

abbrev pub invariant-loop-place : goal.invariant-loop-place
invariant-loop-place l = record {
  walks : (s : Setup) (division : ℕ → ℕ) (between : ℕ → ℕ → ℕ) → AreLengthsOfWalks l.parts s division between l.fn.lengths → AreLengthsOfWalks l.parts s division between l.lengths;
  settled : OnFalse l.shortened (IsSettledUpTo l.parts l.place l.fn.lengths l.lengths);
  less : OnTrue l.shortened (weight l.lengths < weight l.fn.lengths);
  no_more : weight l.lengths ≤ weight l.fn.lengths;
}

use Rattle.std.proofs.Common.{◌≡◌, ℕ, false, length}
use Rattle.incidents.specs.Pairs.{has_in}
use Rattle.incidents.proofs.pairs.Pairs.new.Given as goal

-- there are so many columns, without pairs
abbrev pub invariant-loop-place : goal.invariant-loop-place
invariant-loop-place l = record {
  room : length l.columns.items ≡ l._place;
  none : (a b : ℕ) → has_in l.columns.items a b ≡ false;
}

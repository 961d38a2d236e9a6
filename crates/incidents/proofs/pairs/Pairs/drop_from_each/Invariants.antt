use Rattle.std.proofs.Common.{◌≡◌, ℕ, length}
use Rattle.incidents.specs.Pairs.{has}
use Rattle.incidents.proofs.Columns.{dropped_below}
use Rattle.incidents.proofs.pairs.Pairs.drop_from_each.Given as goal

-- the member's pairs are taken out of the columns so far
abbrev pub invariant-loop-place : goal.invariant-loop-place
invariant-loop-place l = record {
  room : length l.self.columns.items ≡ length l.fn.self.columns.items;
  dropped : (a b : ℕ) → has l.self a b ≡ dropped_below l.place l.fn.first (has l.fn.self) a b;
}

use Rattle.std.proofs.Common.{◌≡◌, ◌≤◌, ◌+◌, length}
use Rattle.sweep.proofs.shares.works_ahead.Given as goal

-- the work of the first runs stands there
abbrev pub invariant-loop-number : goal.invariant-loop-number
invariant-loop-number l = record {
  long : l.next + length l.works.items ≡ l.number;
  high : l.number ≤ l.till;
}

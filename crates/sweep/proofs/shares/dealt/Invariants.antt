use Rattle.std.proofs.Common.{◌≡◌, ◌≤◌, ◌+◌}
use Rattle.sweep.specs.Shares.{AreShares}
use Rattle.sweep.proofs.shares.dealt.Given as goal

-- the runs to before `start` are dealt out
abbrev pub invariant-loop-work : goal.invariant-loop-work
invariant-loop-work l = record {
  low : l.from ≤ l.start;
  high : l.start ≤ l.next;
  place : l.next ≡ l.from + l.work-index;
  shared : AreShares l.from l.start l.shares.items;
}

use Rattle.std.proofs.Common.{◌≡◌, ◌≤◌, ◌+◌, ◌-◌, length, drop}
use Rattle.piggyback.specs.Keyed.{all_placed}
use Rattle.piggyback.proofs.Merging.{merging}
use Rattle.piggyback.proofs.front.merge.Given as goal

-- up to the place all is written, and what is left fits behind it
abbrev pub invariant-loop-place : goal.invariant-loop-place
invariant-loop-place l = record {
  some : l.done ≤ length l.sent;
  fits : l.place + length l.sent ≤ length l.entries + l.done;
  rest : merging l.entries l.place (l.place + (length l.sent - l.done)) (drop l.done l.sent) ≡ all_placed (drop (length l.sent) l.fn.entries) l.sent;
}

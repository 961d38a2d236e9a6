use Rattle.std.proofs.Common.{◌≡◌, ℕ, take}
use Rattle.links.specs.Entries.{spans_in, slow_spans}
use Rattle.links.proofs.spans.spans_of.Given as goal

-- the table has the times of the entries so far
abbrev pub invariant-loop-slow : goal.invariant-loop-slow
invariant-loop-slow l = (member : ℕ) → spans_in l.spans.items member ≡ slow_spans member (take l.slow-index l.slows)

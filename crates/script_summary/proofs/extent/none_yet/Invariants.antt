use Rattle.std.proofs.Common.{◌≡◌, replicate, None}
use Rattle.script_summary.proofs.extent.none_yet.Given as goal

abbrev pub invariant-loop-entry : goal.invariant-loop-entry
invariant-loop-entry g l = l.made.items ≡ replicate l._entry None

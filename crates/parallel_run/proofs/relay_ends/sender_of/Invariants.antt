use Rattle.std.proofs.Common.{◌≡◌}
use Rattle.parallel_run.proofs.relay_ends.sender_of.Given as goal

abbrev pub invariant-loop-place : goal.invariant-loop-place
invariant-loop-place g l = record { same : l.senders.items ≡ l.fn.senders.items }

use Rattle.std.proofs.Common.{◌≡◌, vec_len}
use Rattle.parallel_run.proofs.opening.event_counts_of.Given as goal

abbrev pub invariant-loop : goal.invariant-loop
invariant-loop l = vec_len l.event_counts ≡ l.counter

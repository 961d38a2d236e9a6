use Rattle.std.proofs.Common.{vec_len}
use Rattle.parallel_run.proofs.threads.joined_threads.Given as goal

abbrev pub invariant-loop-thread : goal.invariant-loop-thread
invariant-loop-thread g l = Unit {0}

abbrev pub decreases-loop-thread : goal.decreases-loop-thread
decreases-loop-thread g l = vec_len l.threads

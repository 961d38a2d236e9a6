use Rattle.lookahead_windows.specs.Basis.{basis_of}
use Rattle.parallel_run.specs.Holding.{Holds}
use Rattle.parallel_run.proofs.worker.run_together.Given as goal

abbrev pub invariant-loop : goal.invariant-loop
invariant-loop g l = record {
  can : (goal.iterator-loop g).can_next l.iterator';
  holds : Holds g.Q.EventQueue.set (basis_of l.rounds) l.hold;
}

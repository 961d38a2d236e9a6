use Rattle.std.proofs.Common.{◌-◌, length}
use Rattle.lookahead_windows.specs.Basis.{basis_of}
use Rattle.parallel_run.specs.Holding.{Holds}
use Rattle.parallel_run.proofs.hold.Hold.run_windows.Given as goal

abbrev pub invariant-loop-process : goal.invariant-loop-process
invariant-loop-process g l = record { holds : Holds g.Q.EventQueue.set (basis_of l.rounds) l.self }

abbrev pub decreases-loop-process : goal.decreases-loop-process
decreases-loop-process g l = goal.left-loop-process g l

use Rattle.std.proofs.Common.{◌-◌, length}
use Rattle.lookahead_windows.specs.Basis.{basis_of}
use Rattle.parallel_run.specs.Holding.{Holds}
use Rattle.parallel_run.proofs.hold.Hold.hear.Given as goal

abbrev pub invariant-loop-waiting : goal.invariant-loop-waiting
invariant-loop-waiting g l = record { holds : Holds g.Q.EventQueue.set (basis_of l.rounds) l.self }

abbrev pub decreases-loop-waiting : goal.decreases-loop-waiting
decreases-loop-waiting g l = goal.left-loop-waiting g l

use Rattle.std.proofs.Common.{◌-◌, length}
use Rattle.lookahead_windows.specs.Basis.{basis_of}
use Rattle.parallel_run.specs.Holding.{Holds}
use Rattle.parallel_run.proofs.hold.Hold.deal_back.Given as goal

abbrev pub invariant-loop-self : goal.invariant-loop-self
invariant-loop-self g l = record { holds : Holds g.Q.EventQueue.set (basis_of l.rounds) l.self }

abbrev pub decreases-loop-self : goal.decreases-loop-self
decreases-loop-self g l = goal.left-loop-self g l

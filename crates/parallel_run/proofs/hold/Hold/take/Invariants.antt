use Rattle.std.proofs.Common.{◌-◌, length}
use Rattle.lookahead_windows.specs.Basis.{basis_of}
use Rattle.parallel_run.specs.Holding.{Holds}
use Rattle.parallel_run.proofs.hold.Hold.take.Given as goal

abbrev pub invariant-loop-post : goal.invariant-loop-post
invariant-loop-post g l = record { holds : Holds g.Q.EventQueue.set (basis_of l.rounds) l.self }

abbrev pub decreases-loop-post : goal.decreases-loop-post
decreases-loop-post g l = l.many - length l.self.ready.items

use Rattle.lookahead_windows.specs.Basis.{basis_of}
use Rattle.parallel_run.specs.Processes.{IsWaiting}
use Rattle.parallel_run.proofs.JoiningPlaces.{all_but_last}
use Rattle.parallel_run.proofs.hold.Hold.hear.Goals as goal

pub hear-requires-clause-waiting : goal.hear-requires-clause-waiting
hear-requires-clause-waiting g c =
    (all_but_last (IsWaiting g.Q.EventQueue.set (basis_of c.args.rounds.now)) c.loop-waiting.self.waiting.items c.pop.new.self.items c.in-Some.waiting c.in-Some.ensures.items c.loop-waiting.invariant.holds.waiting).1

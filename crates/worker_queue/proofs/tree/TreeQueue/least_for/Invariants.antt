use Rattle.worker_queue.specs.SetOf.{set_of}
use Rattle.worker_queue.proofs.Receivers.{AreLeftFor}
use Rattle.worker_queue.proofs.tree.TreeQueue.least_for.Given as goal

abbrev pub invariant-loop-key : goal.invariant-loop-key
invariant-loop-key g l = AreLeftFor (set_of l.self) l.receiver l.key-iterator

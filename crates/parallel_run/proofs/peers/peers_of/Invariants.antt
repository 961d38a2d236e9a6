use Rattle.std.proofs.Common.{map}
use Rattle.parallel_run.specs.Peers.{AreJoined}
use Rattle.parallel_run.proofs.Joining.{rings_of}
use Rattle.parallel_run.proofs.peers.peers_of.Given as goal

abbrev pub invariant-loop-event_count : goal.invariant-loop-event_count
invariant-loop-event_count g l = record { joined : AreJoined l.event_count-index (map rings_of l.all.items) }

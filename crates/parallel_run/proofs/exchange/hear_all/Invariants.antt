use Rattle.std.proofs.Common.{◌≡◌, drop, Some}
use Rattle.lookahead_windows.specs.Basis.{Basis}
use Rattle.parallel_run.specs.Peers.{numbers_of}
use Rattle.parallel_run.proofs.HearingRounds.{HasHeard}
use Rattle.parallel_run.proofs.exchange.hear_all.Given as goal

-- of the others all are heard but those to come
abbrev pub invariant-loop-peer : goal.invariant-loop-peer
invariant-loop-peer g l = record {
  numbers : numbers_of l.peer-items ≡ numbers_of l.fn.peers.items;
  heard : (basis : Basis) → g.K.OfRun.basis ≡ Some basis
      → HasHeard g.Q.EventQueue.set basis l.told.from l.told.round l.told.least (numbers_of l.fn.peers.items) (drop l.peer-index (numbers_of l.fn.peers.items)) l.part l.first;
  number : l.part.number ≡ l.fn.part.number;
}

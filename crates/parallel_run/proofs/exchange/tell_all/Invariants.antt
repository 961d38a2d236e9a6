use Rattle.std.proofs.Common.{◌≡◌, ◌≢◌, drop}
use Rattle.base.specs.Rising.{IsRising}
use Rattle.parallel_run.specs.Peers.{numbers_of}
use Rattle.parallel_run.proofs.TellingInTurn.{AreUntouched}
use Rattle.parallel_run.proofs.exchange.tell_all.Given as goal

-- the lists of those to come stand as they were
abbrev pub invariant-loop-peer : goal.invariant-loop-peer
invariant-loop-peer g l = record {
  numbers : numbers_of l.peer-items ≡ numbers_of l.fn.peers.items;
  untouched : IsRising (λ m n. m ≢ n) (numbers_of l.fn.peers.items) → AreUntouched l.fn.out.items l.out.items (drop l.peer-index (numbers_of l.fn.peers.items));
}

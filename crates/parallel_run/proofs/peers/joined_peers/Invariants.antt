use Rattle.std.proofs.Common.{◌≡◌, ℕ, ◌+◌, ◌<◌, ◌≤◌, length, Some, Vec, Global}
use Rattle.std.specs.List.{slice_get}
use Rattle.parallel_run.specs.declared.peers.Peer.{Peer}
use Rattle.parallel_run.specs.Peers.{AreOthers, numbers_of}
use Rattle.parallel_run.proofs.JoiningNumbers.{HaveNumbersBelow}
use Rattle.parallel_run.proofs.peers.joined_peers.Given as goal

abbrev pub invariant-loop-other : goal.invariant-loop-other
invariant-loop-other g l = record {
  own : HaveNumbersBelow (λ n. n) l.other (numbers_of l.peers.items);
  done : (i : ℕ) (peers : Vec (Peer _) Global) → i < l.other → slice_get l.others-items i ≡ Some peers → AreOthers (length l.fn.before.items + 1) i (numbers_of peers.items);
  rest : (i : ℕ) → l.other ≤ i → slice_get l.others-items i ≡ slice_get l.fn.before.items i;
}

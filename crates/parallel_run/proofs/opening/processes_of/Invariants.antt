use Rattle.std.proofs.Common.{◌≡◌, ℕ, ◌≤◌, ◌++◌, length, map, Some, Vec, Global}
use Rattle.std.specs.List.{AllByRecursion, slice_get}
use Rattle.lookahead_windows.specs.Basis.{Basis}
use Rattle.parallel_run.specs.declared.peers.Peer.{Peer}
use Rattle.parallel_run.specs.Peers.{AreOthers, numbers_of}
use Rattle.parallel_run.specs.Dealt.{all_begun}
use Rattle.parallel_run.specs.Processes.{IsReady, begun_entry}
use Rattle.parallel_run.proofs.opening.processes_of.Given as goal

abbrev pub invariant-loop-part : goal.invariant-loop-part
invariant-loop-part g l = record {
  left : l.yielded ++ l.part-iterator.rest.items ≡ l.fn.parts.items;
  count : length l.processes.items ≡ length l.yielded;
  takers : length l.takers.items ≡ length l.yielded;
  ends : length l.ends.items ≡ length l.part-iterator.rest.items;
  rings : length l.peers.items ≡ length l.fn.parts.items;
  others : (i : ℕ) (peers : Vec (Peer g.row.K.Denot) Global) → length l.yielded ≤ i → slice_get l.peers.items i ≡ Some peers → AreOthers (length l.fn.parts.items) i (numbers_of peers.items);
  numbers : map begun_entry l.processes.items ≡ all_begun (length l.processes.items);
  processes : (basis : Basis) → g.K.OfRun.basis ≡ Some basis → AllByRecursion (IsReady g.Q.EventQueue.set basis) l.processes.items;
}

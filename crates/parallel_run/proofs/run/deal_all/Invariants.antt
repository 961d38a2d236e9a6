use Rattle.std.proofs.Common.{◌≡◌, ◌++◌, map}
use Rattle.std.specs.List.{AllByRecursion}
use Rattle.board.specs.Posts.{dealt_at, taken_at}
use Rattle.lookahead_windows.specs.Basis.{basis_of}
use Rattle.parallel_run.specs.Processes.{IsReady, begun_entry}
use Rattle.parallel_run.proofs.run.deal_all.Given as goal

abbrev pub invariant-loop-process : goal.invariant-loop-process
invariant-loop-process g l = record {
  ready : AllByRecursion (IsReady g.Q.EventQueue.set (basis_of l.rounds)) l.process-iterator.rest.items;
  dealt : dealt_at l.post ++ map begun_entry l.process-iterator.rest.items ≡ dealt_at l.fn.post ++ map begun_entry l.fn.processes.items;
  taken : taken_at l.post ≡ taken_at l.fn.post;
}

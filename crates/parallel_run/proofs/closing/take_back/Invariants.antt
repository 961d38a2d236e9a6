use Rattle.std.proofs.Common.{◌≡◌, ◌++◌, map}
use Rattle.board.specs.Posts.{dealt_at, taken_at}
use Rattle.parallel_run.specs.Returned.{ended_entry}
use Rattle.parallel_run.proofs.closing.take_back.Given as goal

abbrev pub invariant-loop : goal.invariant-loop
invariant-loop g l = record {
  can : (goal.iterator-loop g).can_next l.iterator';
  dealt : dealt_at l.post ≡ dealt_at l.fn.post;
  taken : taken_at l.post ≡ taken_at l.fn.post ++ map ended_entry l.senders.items;
}

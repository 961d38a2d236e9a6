use Rattle.std.proofs.Common.{◌≡◌, ◌≤◌, ◌++◌, length, map, take, drop, filter}
use Rattle.piggyback.specs.Picked.{is_candidate}
use Rattle.piggyback.proofs.order.first_updates.Given as goal

-- with what is left to go through, the first are those of all
abbrev pub invariant-loop-entry : goal.invariant-loop-entry
invariant-loop-entry l = record {
  rest : take l.room (l.first.items ++ map (λ it. it.0) (filter (is_candidate l.limit l.buddy) (drop l.entry-index l.entries))) ≡ take l.room (map (λ it. it.0) (filter (is_candidate l.limit l.buddy) l.entries));
  short : length l.first.items ≤ l.room;
}

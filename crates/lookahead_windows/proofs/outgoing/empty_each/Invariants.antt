use Rattle.std.proofs.Common.{◌≡◌, [], length, take}
use Rattle.std.specs.List.{AllByRecursion}
use Rattle.lookahead_windows.proofs.outgoing.empty_each.Given as goal

abbrev pub invariant-loop-place : goal.invariant-loop-place
invariant-loop-place l = record {
  count : length l.lists.items ≡ length l.fn.lists.items;
  empty : AllByRecursion (λ list. list.items ≡ []) (take l.place l.lists.items);
}

use Rattle.std.proofs.Common.{◌≡◌, ◌++◌, map, length}
use Rattle.std.specs.Vec.Iter.{drain_items}
use Rattle.lookahead.specs.Between.{part_number}
use Rattle.lookahead_windows.specs.Windows.{AreDealt}
use Rattle.lookahead_windows.proofs.outgoing.deal.Given as goal

abbrev pub invariant-loop-event : goal.invariant-loop-event
invariant-loop-event l = record {
  left : l.fn.events.items ≡ l.yielded ++ drain_items l.event-iterator;
  count : length l.lists.items ≡ l.division.parts;
  dealt : AreDealt (part_number l.division) l.division.parts l.yielded (map (λ list. list.items) l.lists.items);
}

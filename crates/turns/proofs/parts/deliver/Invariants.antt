use Rattle.std.proofs.Common.{◌≡◌, ◌++◌, map}
use Rattle.member.specs.StateOf.{pair_of}
use Rattle.lookahead.specs.Between.{part_number}
use Rattle.turns.specs.Parts.{HaveCome}
use Rattle.turns.proofs.parts.deliver.Given as goal

abbrev pub invariant-loop-event : goal.invariant-loop-event
invariant-loop-event g l = record {
  left : l.yielded ++ l.event-iterator.rest.items ≡ l.fn.events.items;
  come : HaveCome g.Q.EventQueue.set (part_number l.division) l.fn.parts.items l.parts.items (map pair_of l.yielded);
}

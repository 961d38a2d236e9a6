use Rattle.std.proofs.Common.{◌≡◌, ◌++◌, map}
use Rattle.std.specs.FinMap.{contains_key}
use Rattle.std.specs.Vec.Iter.{drain_items}
use Rattle.base.specs.World.{with_events}
use Rattle.member.specs.StateOf.{pair_of}
use Rattle.windows.specs.Parts.{for_own, for_others}
use Rattle.windows.specs.WorldOf.{states_in, contents_in}
use Rattle.windows.proofs.steps.split_events.Given as goal

abbrev pub invariant-loop-event : goal.invariant-loop-event
invariant-loop-event g l = record {
  left : l.fn.events.items ≡ l.yielded ++ drain_items l.event-iterator;
  own : contents_in (g.Q.EventQueue.set l.queue) ≡ with_events (contents_in (g.Q.EventQueue.set l.fn.queue)) (for_own (contains_key (states_in l.members)) (map pair_of l.yielded));
  others : map pair_of l.out.items ≡ map pair_of l.fn.out.items ++ for_others (contains_key (states_in l.members)) (map pair_of l.yielded);
}

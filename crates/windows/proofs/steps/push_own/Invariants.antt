use Rattle.std.specs.FinMap.{contains_key}
use Rattle.windows.specs.Handling.{HaveOwnPended}
use Rattle.windows.specs.WorldOf.{states_in, contents_in}
use Rattle.windows.proofs.steps.push_own.Given as goal

abbrev pub invariant-loop-event : goal.invariant-loop-event
invariant-loop-event g l = record {
  pended : HaveOwnPended (contains_key (states_in l.members)) (contents_in (g.Q.EventQueue.set l.fn.queue)) (contents_in (g.Q.EventQueue.set l.queue)) l.fn.events.items l.events.items;
}

abbrev pub decreases-loop-event : goal.decreases-loop-event
decreases-loop-event g l = l.events.len

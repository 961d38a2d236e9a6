use Rattle.std.proofs.Common.{◌≡◌, map, take}
use Rattle.member.specs.StateOf.{pair_of}
use Rattle.windows.specs.Parts.{with_arrivals}
use Rattle.windows.specs.WorldOf.{world_of}
use Rattle.parallel_run.proofs.exchange.receive.Given as goal

abbrev pub invariant-loop-event : goal.invariant-loop-event
invariant-loop-event g l = record {
  come : world_of g.Q.EventQueue.set l.part ≡ with_arrivals (world_of g.Q.EventQueue.set l.fn.part) (map pair_of (take l.event-index l.events));
  number : l.part.number ≡ l.fn.part.number;
}

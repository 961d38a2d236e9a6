use Rattle.std.proofs.Common.{◌≡◌}
use Rattle.windows.specs.Admitting.{opened_below}
use Rattle.windows.specs.WorldOf.{world_of}
use Rattle.windows.proofs.part.Part.whole.Given as goal

abbrev pub invariant-loop-number : goal.invariant-loop-number
invariant-loop-number g l = world_of g.Q.EventQueue.set l.part ≡ opened_below l.scenario l.number

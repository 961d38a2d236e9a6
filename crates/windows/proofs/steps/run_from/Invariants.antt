use Rattle.std.proofs.Common.{◌≡◌}
use Rattle.windows.specs.WorldOf.{world_of}
use Rattle.windows.proofs.PartWindows.{IsWindowSoFar, left_in}
use Rattle.windows.proofs.steps.run_from.Given as goal

abbrev pub invariant-loop : goal.invariant-loop
invariant-loop g l = record {
  window : IsWindowSoFar l.setting.cluster.scenario.now l.setting.bound (world_of g.Q.EventQueue.set l.fn.part) (world_of g.Q.EventQueue.set l.part) l.made;
  number : l.part.number ≡ l.fn.part.number;
}

abbrev pub decreases-loop : goal.decreases-loop
decreases-loop g l = left_in l.setting.cluster.scenario.now l.setting.later l.setting.bound (world_of g.Q.EventQueue.set l.fn.part) (world_of g.Q.EventQueue.set l.part)

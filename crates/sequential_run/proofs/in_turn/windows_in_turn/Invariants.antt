use Rattle.std.proofs.Common.{◌≡◌, ◌++◌, ◌+◌, ◌≤◌}
use Rattle.std.specs.List.{AllByRecursion}
use Rattle.windows.specs.WorldOf.{world_of}
use Rattle.windows.specs.Window.{IsConsistentPart}
use Rattle.windows.specs.Several.{RanWindows}
use Rattle.sequential_run.proofs.in_turn.windows_in_turn.Given as goal

abbrev pub invariant-loop-bounded : goal.invariant-loop-bounded
invariant-loop-bounded g l = record {
  left : l.yielded ++ l.bounded-iterator.rest.items ≡ l.fn.parts.items;
  windows : RanWindows g.Q.EventQueue.set l.course.cluster.scenario.now l.yielded l.all.items;
  in_time : AllByRecursion (λ b. b.bound ≤ l.course.cluster.scenario.now.end + 1) l.bounded-iterator.rest.items;
  consistent : AllByRecursion (λ b. IsConsistentPart l.course.cluster.scenario.now (world_of g.Q.EventQueue.set b.part)) l.bounded-iterator.rest.items;
}

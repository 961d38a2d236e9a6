use Rattle.std.proofs.Common.{◌≡◌, ◌++◌, map, take}
use Rattle.scenario.specs.Script.{leave_event}
use Rattle.scenario.proofs.script.add_leaves.Given as goal

abbrev pub invariant-loop-leave : goal.invariant-loop-leave
invariant-loop-leave l = l.events.items ≡ l.initial.events.items ++ map leave_event (take l.leave-index l.leaves)

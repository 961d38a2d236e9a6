use Rattle.std.proofs.Common.{◌-◌, ◌≤◌}
use Rattle.scenario.proofs.calendar.shift_for.Given as goal

abbrev pub invariant-loop-shift : goal.invariant-loop-shift
invariant-loop-shift l = l.shift ≤ 63

abbrev pub decreases-loop-shift : goal.decreases-loop-shift
decreases-loop-shift l = 63 - l.shift

use Rattle.std.proofs.Common.{◌<◌, ◌≤◌, ◌+◌, ◌-◌, drop, length, take}
use Rattle.sweep_plan.proofs.Grouped.{Follow}
use Rattle.sweep_plan.proofs.axes.axis_end.Given as goal

abbrev pub invariant-loop-end : goal.invariant-loop-end
invariant-loop-end l =
    record { past : l.from < l.end; within : l.end ≤ length l.swept_keys; follow : Follow (take (l.end - (l.from + 1)) (drop (l.from + 1) l.swept_keys)) }

abbrev pub decreases-loop-end : goal.decreases-loop-end
decreases-loop-end l = length l.swept_keys - l.end

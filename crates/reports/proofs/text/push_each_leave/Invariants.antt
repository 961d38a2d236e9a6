use Rattle.std.proofs.Common.{◌≡◌, ◌++◌, take, flat_map}
use Rattle.std.specs.String.{string_bytes}
use Rattle.reports.specs.Text.{leave_line}
use Rattle.reports.proofs.text.push_each_leave.Given as goal

-- the lines of the leaves so far
abbrev pub invariant-loop-leave : goal.invariant-loop-leave
invariant-loop-leave l = string_bytes l.text ≡ string_bytes l.initial.text ++ flat_map (leave_line l.scenario) (take l.leave-index l.leaves)

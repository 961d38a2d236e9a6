use Rattle.std.proofs.Common.{◌≡◌, ◌++◌, take, flat_map}
use Rattle.std.specs.String.{string_bytes}
use Rattle.meaning_text.specs.Lines.{leave_line}
use Rattle.meaning_text.proofs.script.push_leaves.Given as goal

abbrev pub invariant-loop-leave : goal.invariant-loop-leave
invariant-loop-leave l = string_bytes l.text ≡ string_bytes l.initial.text ++ flat_map (leave_line l.scenario) (take l.leave-index l.leaves)

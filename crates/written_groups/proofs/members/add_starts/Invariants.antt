use Rattle.std.proofs.Common.{◌≡◌, ◌++◌, replicate}
use Rattle.written_groups.proofs.members.add_starts.Given as goal

-- those of the members so far
abbrev pub invariant-loop-member : goal.invariant-loop-member
invariant-loop-member l = l.starts.items ≡ l.fn.starts.items ++ replicate l._member l.start

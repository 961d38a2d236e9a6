use Rattle.std.proofs.Common.{◌≡◌, ◌+◌, ◌-◌, vec_len}
use Rattle.lives.specs.Regards.{regards_of}
use Rattle.lives.proofs.regards.reach.Given as goal

abbrev pub invariant-loop-member : goal.invariant-loop-member
invariant-loop-member l = regards_of l.column.items ≡ regards_of l.fn.column.items

abbrev pub decreases-loop-member : goal.decreases-loop-member
decreases-loop-member l = l.member + 1 - vec_len l.column

use Rattle.std.proofs.Common.{◌≡◌}
use Rattle.lives.specs.Regards.{failed_among, regards_of}
use Rattle.lives.proofs.regards.list_failed.Given as goal

abbrev pub invariant-loop-number : goal.invariant-loop-number
invariant-loop-number l = l.failed.items ≡ failed_among l.number (regards_of l.column)

use Rattle.std.proofs.Common.{◌≡◌, take}
use Rattle.partitioning.proofs.Turning.{turns}
use Rattle.partitioning.proofs.small_runs.is_unasked.Given as goal

abbrev pub invariant-loop-member : goal.invariant-loop-member
invariant-loop-member l = record { turns : take l.member l.division.part_of ≡ turns l.workers l.member }

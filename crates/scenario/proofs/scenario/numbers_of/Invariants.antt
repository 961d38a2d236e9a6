use Rattle.std.proofs.Common.{◌≡◌, map}
use Rattle.std.specs.List.{range_with_len}
use Rattle.scenario.specs.Setup.{group_at}
use Rattle.scenario.specs.SetupOf.{group_of}
use Rattle.scenario.proofs.scenario.numbers_of.Given as goal

abbrev pub invariant-loop-member : goal.invariant-loop-member
invariant-loop-member l = l.numbers.items ≡ map (group_at (map group_of l.groups)) (range_with_len 0 l.member)

use Rattle.std.proofs.Common.{◌≡◌, map}
use Rattle.std.specs.List.{range_with_len}
use Rattle.scenario.specs.Setup.{group_at}
use Rattle.meaning.proofs.groups.groups_of.Given as goal

abbrev pub invariant-loop-member : goal.invariant-loop-member
invariant-loop-member l = l.groups.items ≡ map (group_at l.scenario.groups) (range_with_len 0 l.member)

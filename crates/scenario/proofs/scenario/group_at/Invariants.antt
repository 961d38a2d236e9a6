use Rattle.std.proofs.Common.{◌≡◌, ◌+◌, map, drop}
use Rattle.scenario.specs.Setup.{group_at}
use Rattle.scenario.specs.SetupOf.{group_of}
use Rattle.scenario.proofs.scenario.group_at.Given as goal

abbrev pub invariant-loop-number : goal.invariant-loop-number
invariant-loop-number l = group_at (map group_of l.groups) l.member ≡ l.number + group_at (map group_of (drop l.number l.groups)) l.before

-- How many members a scenario has at most.
use Rattle.std.proofs.Common.{◌≤◌, arith}
use Rattle.scenario.specs.Setup.{Setup, IsSound, member_count}
use Rattle.scenario.proofs.Members.{most_of_all}

pub few_members : (s : Setup) → IsSound s → member_count s ≤ 16384
few_members s sound = omega (arith, most_of_all s.version, sound.members.1)

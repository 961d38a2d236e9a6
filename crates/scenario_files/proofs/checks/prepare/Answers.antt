-- the members are divided as the words say
use Rattle.scenario_files.proofs.Divided.{each_has_a_part}
use Rattle.scenario_files.proofs.checks.prepare.Goals as goal

pub returns-clause-divided : goal.returns-clause-divided
returns-clause-divided g c = each_has_a_part _ _ _ _ c.in_ok-division.ensures.divided

use Rattle.std.proofs.Common.{arith}
use Rattle.probing.proofs.RoundLemmas.{is_probe}
use Rattle.probing.proofs.laws.probes_go_to_members.Goals as goal

pub returns-clause-member : goal.returns-clause-member
returns-clause-member c words order member fit sound is =
    omega (arith, (is_probe words order fit sound).some member is, sound.listed.distinct member)

pub returns-clause-none : goal.returns-clause-none
returns-clause-none c words order fit sound = (is_probe words order fit sound).none

pub returns-clause-members : goal.returns-clause-members
returns-clause-members c words order fit sound = (is_probe words order fit sound).same

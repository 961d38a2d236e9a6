use Rattle.probing.proofs.OthersLemmas.{removed_absent}
use Rattle.probing.proofs.RoundLemmas.{absent_unprobed}
use Rattle.probing.proofs.laws.a_removed_member_is_probed_no_more.Goals as goal

pub returns-clause-removed : goal.returns-clause-removed
returns-clause-removed c = removed_absent

pub returns-clause-absent : goal.returns-clause-absent
returns-clause-absent c = absent_unprobed

use Rattle.member_laws.proofs.Healths.{within_opening, within_step, ceiling_step, ceiling_kept}
use Rattle.member_laws.proofs.laws.health_stays_within_its_ceiling.Goals as goal

pub returns-clause-opening : goal.returns-clause-opening
returns-clause-opening c = within_opening

pub returns-clause-counter : goal.returns-clause-counter
returns-clause-counter c = within_step

pub returns-clause-ceiling : goal.returns-clause-ceiling
returns-clause-ceiling c = ceiling_step

pub returns-clause-ceiling_by_older_rules : goal.returns-clause-ceiling_by_older_rules
returns-clause-ceiling_by_older_rules c = ceiling_kept

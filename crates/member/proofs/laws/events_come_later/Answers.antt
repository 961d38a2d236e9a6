use Rattle.member.proofs.Fair.{steps_later, steps_linked}
use Rattle.member.proofs.laws.events_come_later.Goals as goal

pub returns-clause-later : goal.returns-clause-later
returns-clause-later c = steps_later

pub returns-clause-linked : goal.returns-clause-linked
returns-clause-linked c = steps_linked

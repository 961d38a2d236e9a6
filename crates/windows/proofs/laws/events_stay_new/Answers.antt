use Rattle.member_laws.proofs.Opened.{opening_numbered}
use Rattle.windows.specs.Safe.{IsSafe}
use Rattle.windows.proofs.Members.{numbered_by, new_here, sent_new}
use Rattle.windows.proofs.laws.events_stay_new.Goals as goal

pub returns-clause-opening : goal.returns-clause-opening
returns-clause-opening c = opening_numbered

pub returns-clause-numbers : goal.returns-clause-numbers
returns-clause-numbers c = λ s least_delay. numbered_by s (IsSafe s.end least_delay)

pub returns-clause-part : goal.returns-clause-part
returns-clause-part c = new_here

pub returns-clause-sent : goal.returns-clause-sent
returns-clause-sent c = sent_new

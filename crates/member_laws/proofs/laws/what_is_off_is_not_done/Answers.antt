use Rattle.member_laws.proofs.Switches.{rows_are_on, full_without, no_buddy, no_lone_buddy}
use Rattle.member_laws.proofs.laws.what_is_off_is_not_done.Goals as goal

pub returns-clause-rows : goal.returns-clause-rows
returns-clause-rows c = rows_are_on

pub returns-clause-health : goal.returns-clause-health
returns-clause-health c = full_without

pub returns-clause-relays : goal.returns-clause-relays
returns-clause-relays c = λ s m t off h. h.relays off

pub returns-clause-buddy : goal.returns-clause-buddy
returns-clause-buddy c = no_buddy

pub returns-clause-lone_buddy : goal.returns-clause-lone_buddy
returns-clause-lone_buddy c = no_lone_buddy

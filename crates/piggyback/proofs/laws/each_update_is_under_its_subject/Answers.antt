use Rattle.piggyback.proofs.Owned.{own-empty, own-insert, own-left, distinct-values}
use Rattle.piggyback.proofs.laws.each_update_is_under_its_subject.Goals as goal

pub returns-clause-at_first : goal.returns-clause-at_first
returns-clause-at_first c = own-empty

pub returns-clause-after_put : goal.returns-clause-after_put
returns-clause-after_put c = own-insert

pub returns-clause-after_pick : goal.returns-clause-after_pick
returns-clause-after_pick c = own-left

pub returns-clause-distinct : goal.returns-clause-distinct
returns-clause-distinct c = distinct-values

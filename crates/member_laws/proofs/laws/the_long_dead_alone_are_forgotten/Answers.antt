use Rattle.member_laws.proofs.Forgotten.{stays_at_end, gone_at_end}
use Rattle.member_laws.proofs.laws.the_long_dead_alone_are_forgotten.Goals as goal

pub returns-clause-others : goal.returns-clause-others
returns-clause-others c s k o q held here fresh = stays_at_end s k q o held here fresh

pub returns-clause-gone : goal.returns-clause-gone
returns-clause-gone c s k o q held below over here past = gone_at_end s k q o held below over here past

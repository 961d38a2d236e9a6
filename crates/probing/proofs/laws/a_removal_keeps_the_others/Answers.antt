use Rattle.probing.proofs.OthersLemmas.{remove_leaves_others, others_counted}
use Rattle.probing.proofs.laws.a_removal_keeps_the_others.Goals as goal

pub returns-clause-probed : goal.returns-clause-probed
returns-clause-probed c member order sound = (remove_leaves_others member order sound).before

pub returns-clause-coming : goal.returns-clause-coming
returns-clause-coming c member order sound = (remove_leaves_others member order sound).behind

pub returns-clause-others : goal.returns-clause-others
returns-clause-others c = others_counted

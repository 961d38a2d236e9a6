use Rattle.scenario.proofs.Between.{numbers_more}
use Rattle.scenario.proofs.scenario.numbers_of.Goals as goal

pub loop-member-preserved : goal.loop-member-preserved
loop-member-preserved c = numbers_more _ _ _ _ _ c.loop-member.invariant c.group_at.ensures c.in_ok-push.ensures.items

use Rattle.links.proofs.Served.{groups_more}
use Rattle.meaning.proofs.groups.groups_of.Goals as goal

pub loop-member-preserved : goal.loop-member-preserved
loop-member-preserved c = groups_more _ _ _ _ _ c.loop-member.invariant c.group_number.ensures c.in_ok-push.ensures.items

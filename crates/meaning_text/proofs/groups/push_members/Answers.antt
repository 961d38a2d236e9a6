use Rattle.meaning.proofs.More.{told_more}
use Rattle.meaning_text.specs.Lines.{group_line}
use Rattle.meaning_text.proofs.groups.push_members.Goals as goal

pub loop-member-preserved : goal.loop-member-preserved
loop-member-preserved c = told_more (group_line c.args.scenario.now) _ _ _ c.loop-member.member c.loop-member.invariant c.in_ok-push_group.ensures

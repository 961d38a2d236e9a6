use Rattle.std.proofs.Common.{[]}
use Rattle.meaning.proofs.More.{told_more}
use Rattle.meaning_json.specs.Figures.{group_item}
use Rattle.meaning_json.proofs.figures.groups_value.Goals as goal

pub loop-member-preserved : goal.loop-member-preserved
loop-member-preserved c = told_more (group_item c.args.scenario.now) [] _ _ c.loop-member.member c.loop-member.invariant c.in_ok-push_group.ensures

use Rattle.std.proofs.Common.{[]}
use Rattle.meaning.proofs.More.{told_more}
use Rattle.meaning_json.specs.Script.{crash_items}
use Rattle.meaning_json.proofs.script.crashes_value.Goals as goal

pub loop-member-preserved : goal.loop-member-preserved
loop-member-preserved c = told_more (crash_items c.args.scenario.now) [] _ _ c.loop-member.member c.loop-member.invariant c.in_ok-push_crashes_of.ensures

use Rattle.meaning.proofs.More.{told_more}
use Rattle.meaning_text.specs.Lines.{crash_lines}
use Rattle.meaning_text.proofs.script.push_crashes.Goals as goal

pub loop-member-preserved : goal.loop-member-preserved
loop-member-preserved c = told_more (crash_lines c.args.scenario.now) _ _ _ c.loop-member.member c.loop-member.invariant c.in_ok-push_crashes_of.ensures

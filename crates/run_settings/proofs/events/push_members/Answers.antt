use Rattle.drawing.proofs.Ranges.{place_more}
use Rattle.run_settings.specs.Events.{member_events}
use Rattle.run_settings.proofs.events.push_members.Goals as goal

pub loop-number-preserved : goal.loop-number-preserved
loop-number-preserved c = place_more (member_events c.args.scenario.now) c.loop-number.number _ _ _ c.loop-number.invariant c.in_ok-push_member_of.ensures

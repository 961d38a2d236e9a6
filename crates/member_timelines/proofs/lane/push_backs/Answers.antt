use Rattle.member_timelines.specs.Lanes.{back_rule}
use Rattle.member_timelines.proofs.Steps.{place_more}
use Rattle.member_timelines.proofs.lane.push_backs.Goals as goal

pub loop-span-preserved : goal.loop-span-preserved
loop-span-preserved c = place_more (back_rule c.args.run.now.scenario.now c.args.run.now.tallies.now c.args.member) c.loop-span.span _ _ _ c.loop-span.invariant c.in_ok-push_back.ensures

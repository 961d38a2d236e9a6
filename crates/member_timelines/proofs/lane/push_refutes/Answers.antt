use Rattle.member_timelines.specs.Lanes.{refute_dot}
use Rattle.member_timelines.proofs.Steps.{place_more}
use Rattle.member_timelines.proofs.lane.push_refutes.Goals as goal

pub loop-span-preserved : goal.loop-span-preserved
loop-span-preserved c = place_more (refute_dot c.args.run.now.scenario.now c.args.run.now.tallies.now c.args.member) c.loop-span.span _ _ _ c.loop-span.invariant c.in_ok-push_refute.ensures

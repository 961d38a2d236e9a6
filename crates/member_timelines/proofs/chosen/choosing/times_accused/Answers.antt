use Rattle.member_timelines.specs.Choice.{accused_in, most_of_all}
use Rattle.member_timelines.proofs.Steps.{sum_of_parts}
use Rattle.member_timelines.proofs.chosen.choosing.times_accused.Goals as goal

pub loop-span-preserved : goal.loop-span-preserved
loop-span-preserved c = sum_of_parts (accused_in c.args.run.now.scenario.now c.args.run.now.tallies.now c.args.member) c.loop-span.span most_of_all _ _ _ c.loop-span.invariant c.accused_in.ensures c.saturating_add-times.ensures

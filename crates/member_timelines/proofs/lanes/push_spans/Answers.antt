use Rattle.member_timelines.specs.LaneTable.{span_row}
use Rattle.member_timelines.proofs.Steps.{place_more}
use Rattle.member_timelines.proofs.lanes.push_spans.Goals as goal

pub loop-span-preserved : goal.loop-span-preserved
loop-span-preserved c = place_more (span_row c.args.time c.args.name.now c.args.width c.args.suspected.now c.args.dead.now) c.loop-span.span _ _ _ c.loop-span.invariant c.in_ok-push_span.ensures

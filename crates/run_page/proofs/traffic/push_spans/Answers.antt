use Rattle.member_timelines.proofs.Steps.{place_more}
use Rattle.run_page.specs.Traffic.{span_cells}
use Rattle.run_page.proofs.traffic.push_spans.Goals as goal

pub loop-span-preserved : goal.loop-span-preserved
loop-span-preserved c = place_more (span_cells c.args.run.now.tick c.args.run.now.scenario.now c.args.run.now.tallies.now) c.loop-span.span _ _ _ c.loop-span.invariant c.in_ok-push_span.ensures

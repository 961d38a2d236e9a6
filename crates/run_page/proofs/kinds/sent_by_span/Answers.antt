use Rattle.std.specs.Prelude.{count_by}
use Rattle.series.specs.Series.{sends_in}
use Rattle.member_timelines.proofs.Steps.{map_more}
use Rattle.run_page.proofs.kinds.sent_by_span.Goals as goal

pub loop-span-preserved : goal.loop-span-preserved
loop-span-preserved c = map_more (λ span. count_by (sends_in c.args.run.now.scenario.now c.args.kind span) c.args.run.now.tallies.now) c.loop-span.span _ _ _ c.loop-span.invariant c.in_ok-push.ensures.items c.sent_in.ensures

use Rattle.member_timelines.proofs.Steps.{place_more}
use Rattle.run_page.specs.Health.{health_span}
use Rattle.run_page.proofs.health.push_spans.Goals as goal

pub loop-span-preserved : goal.loop-span-preserved
loop-span-preserved c = place_more (health_span c.args.time c.args.value c.args.width c.args.counts.now) c.loop-span.span _ _ _ c.loop-span.invariant c.in_ok-push_span.ensures

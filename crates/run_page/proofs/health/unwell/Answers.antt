use Rattle.std.proofs.Common.{◌-◌, ◌^◌, ap, ◌∙◌}
use Rattle.member_timelines.specs.Heights.{stacked}
use Rattle.run_page.specs.Health.{health_layer}
use Rattle.run_page.proofs.Stacking.{tops_step, items_step}
use Rattle.run_page.proofs.health.unwell.Goals as goal

pub loop-value-preserved : goal.loop-value-preserved
loop-value-preserved c =
    let layer = health_layer c.args.run.now.scenario.now c.args.run.now.tallies.now (2 ^ 64 - 1) in
    tops_step (2 ^ 64 - 1) _ _ _ c.loop-value.tops.items c.in_ok-reached.reached.items _ (items_step layer c.values-values.result.now c.loop-value.value-index _ c.loop-value-test.true) c.loop-value.invariant
    (c.in_ok-reached.ensures ∙ ap (λ hs. stacked c.loop-value.tops.items hs (2 ^ 64 - 1)) c.in_ok-counts.ensures.value)

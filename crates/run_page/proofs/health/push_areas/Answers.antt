use Rattle.std.proofs.Common.{◌++◌, ap, ◌∙◌}
use Rattle.std.specs.String.{string_bytes}
use Rattle.series.specs.Spans.{span_width}
use Rattle.drawing.specs.Shapes.{area}
use Rattle.member_timelines.specs.Heights.{stacked}
use Rattle.member_timelines.specs.Lanes.{moments}
use Rattle.run_page.specs.Health.{health_layer}
use Rattle.run_page.proofs.Stacking.{layers_step, items_step}
use Rattle.run_page.proofs.health.push_areas.Goals as goal

pub loop-value-preserved : goal.loop-value-preserved
loop-value-preserved c =
    let s = c.args.run.now.scenario.now in
    let layer = health_layer s c.args.run.now.tallies.now c.args.most in
    layers_step s c.args.most _ _ _ c.loop-value.bases.items c.in_ok-tops.tops.items _ _ _ (items_step layer c.values-values.result.now c.loop-value.value-index _ c.loop-value-test.true) c.loop-value.invariant
    (c.in_ok-tops.ensures.tops ∙ ap (λ hs. stacked c.loop-value.bases.items hs c.args.most) c.in_ok-counts.ensures.value)
    (c.in_ok-tops.ensures.text ∙ ap (λ class. string_bytes c.loop-value.text ++ area class c.loop-value.bases.items c.in_ok-tops.tops.items (span_width s) (moments s) c.args.most) c.class_of_value-class.ensures)

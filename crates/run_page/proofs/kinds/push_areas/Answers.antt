use Rattle.std.proofs.Common.{◌++◌, ap, ◌∙◌}
use Rattle.std.specs.String.{string_bytes}
use Rattle.series.specs.Spans.{span_width}
use Rattle.drawing.specs.Shapes.{area}
use Rattle.member_timelines.specs.Heights.{stacked}
use Rattle.member_timelines.specs.Lanes.{moments}
use Rattle.run_page.specs.Traffic.{sent_layer}
use Rattle.run_page.proofs.Stacking.{layers_step, items_step}
use Rattle.run_page.proofs.kinds.push_areas.Goals as goal

pub loop-kind-preserved : goal.loop-kind-preserved
loop-kind-preserved c =
    let s = c.args.run.now.scenario.now in
    let layer = sent_layer s c.args.run.now.tallies.now in
    layers_step s c.args.most _ _ _ c.loop-kind.bases.items c.in_ok-tops.tops.items _ _ _ (items_step layer c.kinds-kinds.result.now c.loop-kind.kind-index _ c.loop-kind-test.true) c.loop-kind.invariant
    (c.in_ok-tops.ensures.tops ∙ ap (λ hs. stacked c.loop-kind.bases.items hs c.args.most) c.in_ok-counts.ensures)
    (c.in_ok-tops.ensures.text ∙ ap (λ class. string_bytes c.loop-kind.text ++ area class c.loop-kind.bases.items c.in_ok-tops.tops.items (span_width s) (moments s) c.args.most) c.class_of.ensures)

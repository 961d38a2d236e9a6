use Rattle.std.proofs.Common.{◌++◌, ◌∙◌, ap, arith, slice_index}
use Rattle.std.specs.List.{flat_map, range_with_len}
use Rattle.std.specs.String.{string_bytes}
use Rattle.drawing.specs.Shapes.{area_step}
use Rattle.drawing.proofs.Ranges.{place_more}
use Rattle.drawing.proofs.shapes.push_area_steps.Goals as goal

pub loop-place-preserved : goal.loop-place-preserved
loop-place-preserved c =
    place_more (λ place. area_step c.args.step c.args.width c.args.most place (slice_index c.args.bases.now place) (slice_index c.args.tops.now place)) c.loop-place.place
    _ _ _ c.loop-place.invariant c.in_ok-push_area_step.ensures

pub returns : goal.returns
returns c =
    c.loop-place.invariant
    ∙ ap (λ n. string_bytes c.args.text.now ++ flat_map (λ place. area_step c.args.step c.args.width c.args.most place (slice_index c.args.bases.now place) (slice_index c.args.tops.now place)) (range_with_len 0 n))
    (omega (arith, c.loop-place-test.false, c.loop-place.auto.place-end, c.min-place-end.ensures))

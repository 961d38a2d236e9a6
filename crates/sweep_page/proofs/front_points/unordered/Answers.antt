use Rattle.std.proofs.Common.{[], ◌∙◌, ap, arith}
use Rattle.std.specs.List.{flat_map, range_with_len}
use Rattle.drawing.proofs.Ranges.{place_more}
use Rattle.sweep_page.specs.Points.{points_at}
use Rattle.sweep_page.proofs.front_points.unordered.Goals as goal

pub loop-place-preserved : goal.loop-place-preserved
loop-place-preserved c = place_more (points_at c.args.crashed c.args.settings.now c.args.front.now) c.loop-place.place [] _ _ c.loop-place.invariant c.in_ok-push_point.ensures

pub returns : goal.returns
returns c =
    c.loop-place.invariant ∙ ap (λ n. flat_map (points_at c.args.crashed c.args.settings.now c.args.front.now) (range_with_len 0 n)) (omega (arith, c.loop-place-test.false, c.loop-place.auto.place-end))

use Rattle.std.proofs.Common.{[], ◌∙◌, ap, arith}
use Rattle.std.specs.List.{flat_map, range_with_len}
use Rattle.drawing.proofs.Ranges.{place_more}
use Rattle.sweep_page.specs.Others.{beating_at}
use Rattle.sweep_page.proofs.others.beating.Goals as goal

pub loop-place-preserved : goal.loop-place-preserved
loop-place-preserved c = place_more (beating_at c.args.crashed c.args.settings.now c.args.one.now) c.loop-place.place [] _ _ c.loop-place.invariant c.in_ok-push_beating.ensures

pub returns : goal.returns
returns c =
    c.loop-place.invariant ∙ ap (λ n. flat_map (beating_at c.args.crashed c.args.settings.now c.args.one.now) (range_with_len 0 n)) (omega (arith, c.loop-place-test.false, c.loop-place.auto.place-end))

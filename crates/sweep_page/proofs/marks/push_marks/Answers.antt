use Rattle.std.proofs.Common.{◌++◌, ◌∙◌, ap, arith}
use Rattle.std.specs.List.{flat_map, range_with_len}
use Rattle.std.specs.String.{string_bytes}
use Rattle.drawing.proofs.Ranges.{place_more}
use Rattle.sweep_page.specs.Front.{mark_at}
use Rattle.sweep_page.proofs.marks.push_marks.Goals as goal

pub loop-place-preserved : goal.loop-place-preserved
loop-place-preserved c = place_more (mark_at c.args.reach.now c.args.settings.now c.args.front.now c.args.best) c.loop-place.place _ _ _ c.loop-place.invariant c.in_ok-push_mark_at.ensures

pub returns : goal.returns
returns c =
    c.loop-place.invariant
    ∙ ap (λ n. string_bytes c.args.text.now ++ flat_map (mark_at c.args.reach.now c.args.settings.now c.args.front.now c.args.best) (range_with_len 0 n)) (omega (arith, c.loop-place-test.false, c.loop-place.auto.place-end))

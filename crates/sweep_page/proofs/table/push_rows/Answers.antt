use Rattle.std.proofs.Common.{◌++◌, ◌∙◌, ap, arith}
use Rattle.std.specs.List.{flat_map, range_with_len}
use Rattle.std.specs.String.{string_bytes}
use Rattle.drawing.proofs.Ranges.{place_more}
use Rattle.sweep_page.specs.Table.{row_at}
use Rattle.sweep_page.proofs.table.push_rows.Goals as goal

pub loop-place-preserved : goal.loop-place-preserved
loop-place-preserved c = place_more (row_at c.args.time c.args.crashed c.args.counted c.args.plan.now.swept_keys c.args.settings.now c.args.front.now) c.loop-place.place _ _ _ c.loop-place.invariant c.in_ok-push_row_at.ensures

pub returns : goal.returns
returns c =
    c.loop-place.invariant
    ∙ ap (λ n. string_bytes c.args.text.now ++ flat_map (row_at c.args.time c.args.crashed c.args.counted c.args.plan.now.swept_keys c.args.settings.now c.args.front.now) (range_with_len 0 n)) (omega (arith, c.loop-place-test.false, c.loop-place.auto.place-end))

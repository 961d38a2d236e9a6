use Rattle.std.proofs.Common.{◌++◌, ◌∙◌, ap, arith}
use Rattle.std.specs.List.{flat_map, range_with_len}
use Rattle.std.specs.String.{string_bytes}
use Rattle.drawing.proofs.Ranges.{place_more}
use Rattle.sweep_keys.specs.Keys.{value_at}
use Rattle.sweep_keys.proofs.charts.push_all_values.Goals as goal

pub loop-place-preserved : goal.loop-place-preserved
loop-place-preserved c = place_more (value_at c.args.lines.now c.args.axis.now) c.loop-place.place _ _ _ c.loop-place.invariant c.in_ok-push_value_at.ensures

pub returns : goal.returns
returns c =
    c.loop-place.invariant
    ∙ ap (λ n. string_bytes c.args.text.now ++ flat_map (value_at c.args.lines.now c.args.axis.now) (range_with_len 0 n)) (omega (arith, c.loop-place-test.false, c.loop-place.auto.place-end, c.place_count-place-end.ensures))

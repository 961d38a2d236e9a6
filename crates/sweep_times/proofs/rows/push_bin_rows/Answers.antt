use Rattle.std.proofs.Common.{◌≡◌, ◌++◌, ◌∙◌, ap, arith}
use Rattle.std.specs.List.{flat_map, range_with_len}
use Rattle.std.specs.String.{string_bytes}
use Rattle.drawing.proofs.Ranges.{place_more}
use Rattle.sweep_times.specs.Times.{row_at, bin_rows}
use Rattle.sweep_times.proofs.rows.push_bin_rows.Goals as goal

pub loop-bin-preserved : goal.loop-bin-preserved
loop-bin-preserved c = place_more (row_at c.args.time c.args.times.now c.args.place) c.loop-bin.bin _ _ _ c.loop-bin.invariant c.in_ok-push_row_at.ensures

pub returns : goal.returns
unfolding bin_rows
returns c =
    let all : c.loop-bin.bin ≡ 20 = omega (arith, c.loop-bin-test.false, c.loop-bin.auto.bin-end) in
    c.loop-bin.invariant
    ∙ ap (λ n. string_bytes c.args.text.now ++ flat_map (row_at c.args.time c.args.times.now c.args.place) (range_with_len 0 n)) all

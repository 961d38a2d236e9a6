use Rattle.std.proofs.Common.{◌++◌, ◌∙◌, ap, arith}
use Rattle.std.specs.List.{flat_map, range_with_len}
use Rattle.std.specs.String.{string_bytes}
use Rattle.drawing.proofs.Ranges.{place_more}
use Rattle.sweep_keys.specs.Keys.{line_over}
use Rattle.sweep_keys.proofs.charts.push_lines.Goals as goal

pub loop-line-preserved : goal.loop-line-preserved
loop-line-preserved c = place_more (line_over c.args.plot.now.settings.now c.args.plot.now.lines c.args.plot.now.statistic c.args.plot.now.most) c.loop-line.line _ _ _ c.loop-line.invariant c.in_ok-push_line.ensures

pub returns : goal.returns
returns c =
    c.loop-line.invariant
    ∙ ap (λ n. string_bytes c.args.text.now ++ flat_map (line_over c.args.plot.now.settings.now c.args.plot.now.lines c.args.plot.now.statistic c.args.plot.now.most) (range_with_len 0 n)) (omega (arith, c.loop-line-test.false, c.loop-line.auto.line-end))

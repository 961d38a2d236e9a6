use Rattle.std.proofs.Common.{◌++◌, ◌∙◌, ap, arith}
use Rattle.std.specs.List.{flat_map, range_with_len}
use Rattle.std.specs.String.{string_bytes}
use Rattle.drawing.proofs.Ranges.{place_more}
use Rattle.sweep_keys.specs.Keys.{marks_over}
use Rattle.sweep_keys.proofs.line.push_all_marks.Goals as goal

pub loop-value-preserved : goal.loop-value-preserved
loop-value-preserved c = place_more (marks_over c.args.plot.now.settings.now c.args.plot.now.lines c.args.plot.now.statistic c.args.plot.now.most c.args.line) c.loop-value.value _ _ _ c.loop-value.invariant c.in_ok-push_marks_over.ensures

pub returns : goal.returns
returns c =
    c.loop-value.invariant
    ∙ ap (λ n. string_bytes c.args.text.now ++ flat_map (marks_over c.args.plot.now.settings.now c.args.plot.now.lines c.args.plot.now.statistic c.args.plot.now.most c.args.line) (range_with_len 0 n)) (omega (arith, c.loop-value-test.false, c.loop-value.auto.value-end))

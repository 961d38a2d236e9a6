use Rattle.std.proofs.Common.{◌++◌, ◌∙◌, ap, arith}
use Rattle.std.specs.List.{flat_map, range_with_len}
use Rattle.std.specs.String.{string_bytes}
use Rattle.drawing.proofs.Ranges.{place_more}
use Rattle.sweep_keys.specs.Keys.{legend_entry}
use Rattle.sweep_keys.proofs.legend.push_entries.Goals as goal

pub loop-line-preserved : goal.loop-line-preserved
loop-line-preserved c = place_more (legend_entry c.args.plan.now.swept_keys c.args.lines.now c.args.key) c.loop-line.line _ _ _ c.loop-line.invariant c.in_ok-push_entry.ensures

pub returns : goal.returns
returns c =
    c.loop-line.invariant
    ∙ ap (λ n. string_bytes c.args.text.now ++ flat_map (legend_entry c.args.plan.now.swept_keys c.args.lines.now c.args.key) (range_with_len 0 n)) (omega (arith, c.loop-line-test.false, c.loop-line.auto.line-end))

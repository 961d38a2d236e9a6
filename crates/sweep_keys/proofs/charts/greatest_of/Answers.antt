use Rattle.std.proofs.Common.{◌≡◌, ℕ, max, fold, ◌∙◌, ap, arith}
use Rattle.std.specs.List.{range_with_len}
use Rattle.sweep_keys.specs.Keys.{greatest_over, greatest_of}
use Rattle.sweep_cells.proofs.Folds.{greatest_more}
use Rattle.sweep_keys.proofs.charts.greatest_of.Goals as goal

pub loop-value-preserved : goal.loop-value-preserved
loop-value-preserved c = c.max-most.ensures ∙ greatest_more (greatest_over c.args.settings.now c.args.lines.now c.args.statistic c.args.line) 0 c.loop-value.value _ _ c.loop-value.invariant c.greatest_over.ensures

pub returns : goal.returns
unfolding greatest_of
returns c =
    let all : c.loop-value.value ≡ c.args.lines.now.values = omega (arith, c.loop-value-test.false, c.loop-value.auto.value-end) in
    c.loop-value.invariant ∙ ap (λ n. fold (λ (most : ℕ) (value : ℕ). max most (greatest_over c.args.settings.now c.args.lines.now c.args.statistic c.args.line value)) 0 (range_with_len 0 n)) all

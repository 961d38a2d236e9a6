use Rattle.std.proofs.Common.{◌≡◌, ℕ, max, fold, ◌∙◌, ap, arith}
use Rattle.std.specs.List.{range_with_len}
use Rattle.sweep_keys.specs.Keys.{greatest_of, greatest_of_all}
use Rattle.sweep_cells.proofs.Folds.{greatest_more}
use Rattle.sweep_keys.proofs.charts.greatest_of_all.Goals as goal

pub loop-line-preserved : goal.loop-line-preserved
loop-line-preserved c = c.max-most.ensures ∙ greatest_more (greatest_of c.args.settings.now c.args.lines.now c.args.statistic) 1 c.loop-line.line _ _ c.loop-line.invariant c.greatest_of.ensures

pub returns : goal.returns
unfolding greatest_of_all
returns c =
    let all : c.loop-line.line ≡ c.args.lines.now.lines = omega (arith, c.loop-line-test.false, c.loop-line.auto.line-end) in
    c.loop-line.invariant ∙ ap (λ n. fold (λ (most : ℕ) (line : ℕ). max most (greatest_of c.args.settings.now c.args.lines.now c.args.statistic line)) 1 (range_with_len 0 n)) all

use Rattle.std.proofs.Common.{◌≡◌, ℕ, max, fold, ◌∙◌, ap, arith}
use Rattle.std.specs.List.{range_with_len}
use Rattle.sweep_times.specs.Bins.{end_at, reach_of}
use Rattle.sweep_cells.proofs.Folds.{greatest_more}
use Rattle.sweep_times.proofs.bins.reach_of.Goals as goal

pub loop-bin-preserved : goal.loop-bin-preserved
loop-bin-preserved c = c.max-most.ensures ∙ greatest_more (end_at c.args.times.now) 0 c.loop-bin.bin _ _ c.loop-bin.invariant c.end_at.ensures

pub returns : goal.returns
unfolding reach_of
returns c =
    let all : c.loop-bin.bin ≡ 20 = omega (arith, c.loop-bin-test.false, c.loop-bin.auto.bin-end) in
    c.loop-bin.invariant ∙ ap (λ n. fold (λ (most : ℕ) (bin : ℕ). max most (end_at c.args.times.now bin)) 0 (range_with_len 0 n)) all

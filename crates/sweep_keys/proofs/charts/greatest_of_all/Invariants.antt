use Rattle.std.proofs.Common.{◌≡◌, ℕ, max, fold}
use Rattle.std.specs.List.{range_with_len}
use Rattle.sweep_keys.specs.Keys.{greatest_of}
use Rattle.sweep_keys.proofs.charts.greatest_of_all.Given as goal

abbrev pub invariant-loop-line : goal.invariant-loop-line
invariant-loop-line l = (l.most ≡ fold (λ (most : ℕ) (line : ℕ). max most (greatest_of l.settings l.lines l.statistic line)) 1 (range_with_len 0 l.line))

use Rattle.std.proofs.Common.{◌≡◌, ℕ, max, fold}
use Rattle.std.specs.List.{range_with_len}
use Rattle.sweep_keys.specs.Keys.{greatest_over}
use Rattle.sweep_keys.proofs.charts.greatest_of.Given as goal

abbrev pub invariant-loop-value : goal.invariant-loop-value
invariant-loop-value l = (l.most ≡ fold (λ (most : ℕ) (value : ℕ). max most (greatest_over l.settings l.lines l.statistic l.line value)) 0 (range_with_len 0 l.value))

use Rattle.std.proofs.Common.{◌≡◌, ℕ, max, fold}
use Rattle.std.specs.List.{range_with_len}
use Rattle.sweep_times.specs.Bins.{end_at}
use Rattle.sweep_times.proofs.bins.reach_of.Given as goal

abbrev pub invariant-loop-bin : goal.invariant-loop-bin
invariant-loop-bin l = (l.most ≡ fold (λ (most : ℕ) (bin : ℕ). max most (end_at l.times bin)) 0 (range_with_len 0 l.bin))

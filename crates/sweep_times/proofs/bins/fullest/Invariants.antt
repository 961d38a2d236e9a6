use Rattle.std.proofs.Common.{◌≡◌, ℕ, max, fold, take}
use Rattle.sweep_times.proofs.bins.fullest.Given as goal

abbrev pub invariant-loop-count : goal.invariant-loop-count
invariant-loop-count l = (l.most ≡ fold (λ (most : ℕ) (count : ℕ). max most count) 1 (take l.count-index l.times.bins))

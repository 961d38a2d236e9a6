use Rattle.std.proofs.Common.{◌≡◌, ℕ, max, fold, take}
use Rattle.sweep_times.specs.Bins.{reach_at}
use Rattle.sweep_times.proofs.bins.greatest_reach.Given as goal

abbrev pub invariant-loop-place : goal.invariant-loop-place
invariant-loop-place l = (l.most ≡ fold (λ (most : ℕ) (place : ℕ). max most (reach_at l.settings place)) 1 (take l.place-index l.places))

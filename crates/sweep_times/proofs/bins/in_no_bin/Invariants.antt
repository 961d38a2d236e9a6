use Rattle.std.proofs.Common.{◌≡◌, ◌-◌, take}
use Rattle.std.specs.List.{sum_by}
use Rattle.sweep_times.proofs.bins.in_no_bin.Given as goal

abbrev pub invariant-loop-count : goal.invariant-loop-count
invariant-loop-count l = (l.left ≡ l.crashes - sum_by (λ count. count) (take l.count-index l.times.bins))

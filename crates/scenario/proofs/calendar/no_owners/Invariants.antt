use Rattle.std.proofs.Common.{◌≡◌, ℕ, ◌+◌, ◌-◌, get_or, vec_len}
use Rattle.scenario.proofs.calendar.no_owners.Given as goal

abbrev pub invariant-loop-owners : goal.invariant-loop-owners
invariant-loop-owners l = (k : ℕ) → get_or l.owners.items k 0 ≡ 0

abbrev pub decreases-loop-owners : goal.decreases-loop-owners
decreases-loop-owners l = l.last + 1 - vec_len l.owners

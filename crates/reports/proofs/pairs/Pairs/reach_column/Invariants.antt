use Rattle.std.proofs.Common.{◌≡◌, ℕ, ◌+◌, ◌-◌, vec_len}
use Rattle.reports.specs.Held.{are_marked}
use Rattle.reports.proofs.pairs.Pairs.reach_column.Given as goal

-- the same pairs are marked
abbrev pub invariant-loop-self : goal.invariant-loop-self
invariant-loop-self l = (a b : ℕ) → are_marked l.self a b ≡ are_marked l.fn.self a b

abbrev pub decreases-loop-self : goal.decreases-loop-self
decreases-loop-self l = l.place + 1 - vec_len l.self.columns

use Rattle.std.proofs.Common.{◌≡◌, ℕ, ◌+◌, ◌-◌, vec_len}
use Rattle.reports.specs.Held.{is_marked}
use Rattle.reports.proofs.pairs.Marks.grow_to_place.Given as goal

-- the same places are marked
abbrev pub invariant-loop-self : goal.invariant-loop-self
invariant-loop-self l = (k : ℕ) → is_marked l.self k ≡ is_marked l.fn.self k

abbrev pub decreases-loop-self : goal.decreases-loop-self
decreases-loop-self l = l.place + 1 - vec_len l.self.marks

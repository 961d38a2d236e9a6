use Rattle.std.proofs.Common.{◌≡◌, ℕ, ◌+◌, ◌-◌, vec_len}
use Rattle.links.specs.Entries.{number_in}
use Rattle.links.proofs.routes.make_rows.Given as goal

abbrev pub invariant-loop-alloc : goal.invariant-loop-alloc
invariant-loop-alloc l = (from to : ℕ) → number_in l.rows.items from to ≡ number_in l.fn.rows.items from to

abbrev pub decreases-loop-alloc : goal.decreases-loop-alloc
decreases-loop-alloc l = l.group + 1 - vec_len l.rows

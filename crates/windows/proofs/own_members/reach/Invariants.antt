use Rattle.std.proofs.Common.{◌≡◌, ◌+◌, ◌-◌, ℕ, vec_len}
use Rattle.windows.specs.ByNumber.{place_at}
use Rattle.windows.proofs.own_members.reach.Given as goal

abbrev pub invariant-loop-places : goal.invariant-loop-places
invariant-loop-places l = (k : ℕ) → place_at l.places.items k ≡ place_at l.fn.places.items k

abbrev pub decreases-loop-places : goal.decreases-loop-places
decreases-loop-places l = l.number + 1 - vec_len l.places

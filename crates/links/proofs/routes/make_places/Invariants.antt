use Rattle.std.proofs.Common.{◌≡◌, ℕ, ◌+◌, ◌-◌, get_or, vec_len}
use Rattle.links.proofs.routes.make_places.Given as goal

abbrev pub invariant-loop-row : goal.invariant-loop-row
invariant-loop-row l = (to : ℕ) → get_or l.row.items to 0 ≡ get_or l.fn.row.items to 0

abbrev pub decreases-loop-row : goal.decreases-loop-row
decreases-loop-row l = l.group + 1 - vec_len l.row

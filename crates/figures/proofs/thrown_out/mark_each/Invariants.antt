use Rattle.std.proofs.Common.{◌≡◌, ◌||◌, ℕ, false, get_or, take}
use Rattle.std.specs.List.{list_any}
use Rattle.figures.specs.Figures.{is_of}
use Rattle.figures.proofs.thrown_out.mark_each.Given as goal

-- those of whom the claims so far are made are marked
abbrev pub invariant-loop-claim : goal.invariant-loop-claim
invariant-loop-claim l = (member : ℕ) → get_or l.are_out member false ≡ (get_or l.fn.are_out member false || list_any (is_of member) (take l.claim-index l.claims))

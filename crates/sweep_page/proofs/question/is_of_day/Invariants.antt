use Rattle.std.proofs.Common.{◌≡◌, [], ◌∷◌, drop, find, not}
use Rattle.goals.specs.Wants.{meets}
use Rattle.sweep_page.proofs.question.is_of_day.Given as goal

-- the first that isn't shown is among those that are left
abbrev pub invariant-loop-want : goal.invariant-loop-want
invariant-loop-want l = find (λ want. not (meets (want ∷ []) l.setting)) (drop l.want-index l.wants) ≡ find (λ want. not (meets (want ∷ []) l.setting)) l.wants

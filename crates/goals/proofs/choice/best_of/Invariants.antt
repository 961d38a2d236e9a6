use Rattle.std.proofs.Common.{◌≡◌, false, take}
use Rattle.std.specs.List.{list_any}
use Rattle.goals.specs.Wants.{is_best}
use Rattle.goals.proofs.choice.best_of.Given as goal

-- none so far is best
abbrev pub invariant-loop-place : goal.invariant-loop-place
invariant-loop-place l = list_any (is_best l.wants l.settings) (take l.place l.settings) ≡ false

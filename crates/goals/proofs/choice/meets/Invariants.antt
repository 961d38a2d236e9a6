use Rattle.std.proofs.Common.{◌≡◌, false, not, take}
use Rattle.std.specs.List.{list_any}
use Rattle.goals.specs.Wants.{shows}
use Rattle.goals.proofs.choice.meets.Given as goal

-- all so far are shown
abbrev pub invariant-loop-want : goal.invariant-loop-want
invariant-loop-want l = list_any (λ want. not (shows want.statistic want.most l.setting)) (take l.want-index l.wants) ≡ false
